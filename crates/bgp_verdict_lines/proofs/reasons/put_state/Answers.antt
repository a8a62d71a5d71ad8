use Rattle.std.proofs.Common.{◌∙◌, Option, ap}
use Rattle.bgp_json_verdicts.specs.Lines.{Reasons, TheState, line_text}
use Rattle.bgp_json_verdicts.specs.declared.at.At.{At}
use Rattle.bgp_verdict_lines.proofs.SameTexts.{state_same}
use Rattle.bgp_verdict_lines.proofs.Puts.{in_text, one_line}
use Rattle.bgp_verdict_lines.proofs.reasons.put_state.Goals as goal

pub returns-in-Text : goal.returns-in-Text
returns-in-Text g c = in_text c.args.lines.now _ _ c.in-Text.is c.put_state.ensures

pub returns-in-Json : goal.returns-in-Json
returns-in-Json g c = one_line c.args.lines.now _ _ _ _ _ c.in-Json.is c.put.ensures
    (ap (λ (s : Option At). line_text (Reasons (TheState c.args.state s))) c.of.ensures ∙ state_same c.args.style.now.first c.args.state c.args.since)
