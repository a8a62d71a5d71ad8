use Rattle.bgp_verdict_lines.specs.JsonVerdictsLines.{line_text, reason_text}
use Rattle.bgp_explain.specs.Tally.{records_line}
use Rattle.bgp_explain.proofs.tally.put_tally.Goals as goal

pub returns : goal.returns
unfolding line_text reason_text records_line
returns g c = c.put_records.ensures
