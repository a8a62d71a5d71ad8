use Rattle.std.proofs.Common.{refl}
use Rattle.bgp_check_lines.specs.Values.{InMadeOrder, value_text}
use Rattle.bgp_check_lines.proofs.Puts.{in_text, one_line}
use Rattle.bgp_check_lines.proofs.notes.put_in_made_order.Goals as goal

pub returns-in-Text : goal.returns-in-Text
returns-in-Text g c = in_text c.args.lines.now _ _ c.in-Text.is c.put_in_made_text.ensures

pub returns-in-Json : goal.returns-in-Json
unfolding value_text
returns-in-Json g c = one_line c.args.lines.now _ _ _ (InMadeOrder c.args.first c.args.deed.now c.args.place.now) _ c.in-Json.is (rw c.new.ensures at c.put_detail.ensures) refl
