use Rattle.bgp_verdict_lines.specs.JsonVerdictsLines.{line_text, reason_text}
use Rattle.bgp_explain.specs.Tally.{ignored_line}
use Rattle.bgp_explain.proofs.tally.put_ignored_in.Goals as goal

pub returns : goal.returns
unfolding line_text reason_text ignored_line
returns g c = c.put_ignored.ensures
