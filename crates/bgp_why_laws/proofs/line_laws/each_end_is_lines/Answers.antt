use Rattle.bgp_why_laws.proofs.Lines.{ends}
use Rattle.bgp_why_laws.proofs.line_laws.each_end_is_lines.Goals as goal

pub returns : goal.returns
returns c = ends
