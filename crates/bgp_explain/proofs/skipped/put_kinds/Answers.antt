use Rattle.bgp_verdict_lines.specs.JsonVerdictsLines.{line_text, reason_text}
use Rattle.bgp_explain.specs.Skipped.{kinds_line}
use Rattle.bgp_explain.proofs.skipped.put_kinds.Goals as goal

pub returns : goal.returns
unfolding line_text reason_text kinds_line
returns g c = c.put_other_kinds.ensures
