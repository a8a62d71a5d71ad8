use Rattle.std.proofs.Common.{refl}
use Rattle.bgp_json_verdicts.specs.Lines.{line_text, reason_text}
use Rattle.bgp_verdict_lines.proofs.Puts.{in_text, one_line}
use Rattle.bgp_verdict_lines.proofs.totals.put_other_kinds.Goals as goal

pub returns-in-Text : goal.returns-in-Text
returns-in-Text g c = in_text c.args.lines.now _ _ c.in-Text.is c.put_kinds_text.ensures

pub returns-in-Json : goal.returns-in-Json
unfolding line_text reason_text
returns-in-Json g c = one_line c.args.lines.now _ _ _ _ _ c.in-Json.is c.put.ensures refl
