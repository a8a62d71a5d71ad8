use Rattle.std.proofs.Common.{refl}
use Rattle.bgp_json_verdicts.specs.Lines.{line_text}
use Rattle.bgp_verdict_lines.proofs.Puts.{in_text, one_line}
use Rattle.bgp_verdict_lines.proofs.answers.put_unfinished.Goals as goal

pub returns-in-Text : goal.returns-in-Text
returns-in-Text g c = in_text c.args.lines.now _ _ c.in-Text.is c.put.ensures

pub returns-in-Json : goal.returns-in-Json
unfolding line_text
returns-in-Json g c = one_line c.args.lines.now _ _ _ _ _ c.in-Json.is c.put-in-Json.ensures refl
