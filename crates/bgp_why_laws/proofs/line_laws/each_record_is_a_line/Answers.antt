use Rattle.bgp_why_laws.proofs.Lines.{records}
use Rattle.bgp_why_laws.proofs.line_laws.each_record_is_a_line.Goals as goal

pub returns : goal.returns
returns g c = records c.args.lacks.now
