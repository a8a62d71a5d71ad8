use Rattle.bgp_check_laws.proofs.Lines.{same_lines}
use Rattle.bgp_check_laws.proofs.laws.each_line_determines_its_text.Goals as goal

pub returns : goal.returns
returns c = same_lines
