use Rattle.bgp_attr.proofs.FirstOfType.{read_back}
use Rattle.bgp_attr.proofs.laws.reads_back.Goals as goal

pub returns : goal.returns
returns c = read_back
