use Rattle.std.proofs.Common.{refl}
use Rattle.bgp_check_lines.specs.Values.{IsUnjudged, value_text}
use Rattle.bgp_check_lines.proofs.Puts.{in_text, one_line}
use Rattle.bgp_check_lines.proofs.verdicts.put_not_judged.Goals as goal

pub returns-in-Text : goal.returns-in-Text
returns-in-Text g c = in_text c.args.lines.now _ _ c.in-Text.is c.put_not_judged.ensures

pub returns-in-Json : goal.returns-in-Json
unfolding value_text
returns-in-Json g c = one_line c.args.lines.now _ _ _ (IsUnjudged c.args.name.now c.args.why) _ c.in-Json.is (rw (c.judged_end.ensures, c.why_text.ensures) at c.put_verdict.ensures) refl
