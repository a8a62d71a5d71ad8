use Rattle.bgp_json_values.proofs.Chains.{one, then}
use Rattle.bgp_json_values.proofs.items.put_hop_family.Goals as goal

pub returns : goal.returns
returns g c =
    let family = rw c.behind.ensures at (rw c.read_u16-safi.ensures at (rw c.read_u16.ensures at c.in_ok-put_family.ensures)) in
    let hop = rw c.behind-2.ensures at (rw c.read_u16-next_hop_afi.ensures at (rw c.from.ensures at c.in_ok-put_number.ensures)) in
    then (one c.in_ok-begin_object.ensures) (then family (then hop (one c.end_object.ensures)))
