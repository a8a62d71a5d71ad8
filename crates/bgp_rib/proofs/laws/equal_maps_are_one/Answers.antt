use Rattle.bgp_rib.proofs.RouteLaws.{one}
use Rattle.bgp_rib.proofs.laws.equal_maps_are_one.Goals as goal

pub returns : goal.returns
returns c = one
