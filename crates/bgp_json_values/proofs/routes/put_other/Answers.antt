use Rattle.bgp_json_values.proofs.Chains.{one, then}
use Rattle.bgp_json_values.proofs.routes.put_other.Goals as goal

pub returns : goal.returns
returns g c =
    let family = rw c.from.ensures at c.in_ok-put_family.ensures in
    then (one c.in_ok-begin_object.ensures) (then family (then (one c.in_ok-key.ensures)
    (then c.in_ok-put_octets.ensures (one c.end_object.ensures))))
