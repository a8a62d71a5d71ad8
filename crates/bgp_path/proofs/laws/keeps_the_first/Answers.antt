use Rattle.bgp_path.proofs.Repeats.{keeps}
use Rattle.bgp_path.proofs.laws.keeps_the_first.Goals as goal

pub returns : goal.returns
returns c = keeps
