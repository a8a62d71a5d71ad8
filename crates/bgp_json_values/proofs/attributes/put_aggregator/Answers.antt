use Rattle.bgp_json_values.proofs.Chains.{one, then}
use Rattle.bgp_json_values.proofs.attributes.put_aggregator.Goals as goal

pub returns : goal.returns
returns g c =
    let number = rw c.from.ensures at c.in_ok-put_number.ensures in
    then (one c.in_ok-begin_object.ensures) (then number (then (one c.in_ok-key.ensures)
    (then c.in_ok-put_address.ensures (one c.end_object.ensures))))
