use Rattle.bgp_rib.proofs.RouteLaws.{changed, disabled}
use Rattle.bgp_rib.proofs.laws.each_change_is_the_maps.Goals as goal

pub returns : goal.returns
returns c = record { changed = changed; disabled = disabled }
