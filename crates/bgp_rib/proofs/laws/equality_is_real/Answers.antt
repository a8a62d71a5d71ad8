use Rattle.bgp_rib.proofs.RouteLaws.{routes_decide}
use Rattle.bgp_rib.proofs.laws.equality_is_real.Goals as goal

pub returns : goal.returns
returns c = routes_decide
