use Rattle.std.proofs.Common.{refl}
use Rattle.bgp_check_lines.specs.Values.{IsUnfinished, value_text}
use Rattle.bgp_check_lines.proofs.Puts.{in_text, one_line}
use Rattle.bgp_check_lines.proofs.verdicts.put_unfinished.Goals as goal

pub returns-in-Text : goal.returns-in-Text
returns-in-Text g c = in_text c.args.lines.now _ _ c.in-Text.is c.put_unfinished.ensures

pub returns-in-Json : goal.returns-in-Json
unfolding value_text
returns-in-Json g c = one_line c.args.lines.now _ _ _ (IsUnfinished c.args.place.now c.args.name.now) _ c.in-Json.is (rw c.judged_end.ensures at c.put_verdict.ensures) refl
