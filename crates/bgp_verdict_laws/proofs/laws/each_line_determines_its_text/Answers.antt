use Rattle.bgp_verdict_laws.proofs.Lines.{same_line}
use Rattle.bgp_verdict_laws.proofs.laws.each_line_determines_its_text.Goals as goal

pub returns : goal.returns
returns c = same_line
