use Rattle.bgp_check_laws.proofs.Explained.{reasons_are_lines}
use Rattle.bgp_check_laws.proofs.line_laws.each_reason_is_lines.Goals as goal

pub returns : goal.returns
returns c = reasons_are_lines
