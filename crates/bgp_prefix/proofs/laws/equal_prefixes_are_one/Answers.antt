use Rattle.bgp_prefix.proofs.RealEquality.{equal_prefixes}
use Rattle.bgp_prefix.proofs.laws.equal_prefixes_are_one.Goals as goal

pub returns : goal.returns
returns c = equal_prefixes
