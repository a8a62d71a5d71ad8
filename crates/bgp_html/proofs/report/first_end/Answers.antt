use Rattle.std.proofs.Common.{sym}
use Rattle.bgp_html.proofs.FirstEnd.{ends_at, ends_nowhere}
use Rattle.bgp_html.proofs.report.first_end.Goals as goal

pub returns-in-Some-clause-value : goal.returns-in-Some-clause-value
returns-in-Some-clause-value c = sym (ends_at c.args.octets.now c.in-Some.place c.in-Some.ensures.0.high c.in-Some.ensures.1 c.in-Some.ensures.0.before)

pub returns-in-None-clause-value : goal.returns-in-None-clause-value
returns-in-None-clause-value c = sym (ends_nowhere c.args.octets.now c.in-None.ensures)
