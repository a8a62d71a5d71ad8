use Rattle.std.specs.Prelude.{◌++◌, ◌∷◌}
use Rattle.bgp_open.specs.Offer.{afi_of}
use Rattle.bgp_json_values.specs.ItemJson.{family_members}
use Rattle.bgp_json_values.specs.RoutesJson.{destinations_json, hop_members, path_ids_members}
use Rattle.bgp_json_values.proofs.Chains.{one, then}
use Rattle.bgp_json_values.proofs.Members.{object, then_members}
use Rattle.bgp_json_values.proofs.routes.put_unicast.Goals as goal

pub returns : goal.returns
returns g c =
    let routes = c.args.routes in
    let hop = hop_members routes.next_hop in
    let listed = (routes.name.now, destinations_json routes.destinations.now) ∷ path_ids_members routes.identified routes.destinations.now in
    let family = rw c.afi_of.ensures at c.in_ok-put_family.ensures in
    let behind = then_members hop listed c.in_ok-put_hop_member.ensures
    (then (one c.in_ok-key.ensures) (then c.in_ok-put_destinations.ensures c.in_ok-put_ids_member.ensures)) in
    object (family_members (afi_of routes.family) 1 ++ (hop ++ listed)) c.in_ok-begin_object.ensures (then family behind) c.end_object.ensures
