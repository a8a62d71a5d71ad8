use Rattle.bgp_verdict_lines.proofs.SameTexts.{verdict_same}
use Rattle.bgp_verdict_lines.proofs.Puts.{all_lines, in_text}
use Rattle.bgp_verdict_lines.proofs.answers.put_verdict.Goals as goal

pub returns-in-Text : goal.returns-in-Text
returns-in-Text g c = in_text c.args.lines.now _ _ c.in-Text.is c.put_verdict.ensures

pub returns-in-Json : goal.returns-in-Json
returns-in-Json g c = all_lines c.args.lines.now _ _ _ _ _ c.in-Json.is c.put_verdict-in-Json.ensures (verdict_same c.args.verdict.now)
