use Rattle.bgp_html.proofs.Steps.{all_of}
use Rattle.bgp_html.proofs.report.ReportSink.write.Goals as goal

pub returns-clause-ok : goal.returns-clause-ok
returns-clause-ok g c = all_of c.args.octets.now c.put.ensures
