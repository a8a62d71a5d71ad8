use Rattle.std.proofs.Common.{refl}
use Rattle.bgp_check_text.specs.Stretch.{ended_stretch_value}
use Rattle.bgp_check_lines.specs.Values.{IsEnded, value_text}
use Rattle.bgp_check_lines.proofs.Puts.{in_text, one_line}
use Rattle.bgp_check_lines.proofs.notes.put_ended.Goals as goal

pub returns-in-Text : goal.returns-in-Text
returns-in-Text g c = in_text c.args.lines.now _ _ c.in-Text.is c.put_ended_stretch.ensures

pub returns-in-Json : goal.returns-in-Json
unfolding value_text
returns-in-Json g c =
    one_line c.args.lines.now _ _ _ (IsEnded c.args.first c.args.number c.args.micro c.args.by.now (ended_stretch_value c.args.ended.now)) _ c.in-Json.is (rw c.new-at.ensures at c.put_ended.ensures) refl
