use Rattle.bgp_rib.proofs.RouteLaws.{left_out}
use Rattle.bgp_rib.proofs.laws.disabled_families_are_left_out.Goals as goal

pub returns : goal.returns
returns c = left_out
