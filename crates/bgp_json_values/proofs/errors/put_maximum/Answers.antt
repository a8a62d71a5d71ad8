use Rattle.bgp_json_values.proofs.Chains.{one, then}
use Rattle.bgp_json_values.proofs.errors.put_maximum.Goals as goal

pub returns : goal.returns
returns g c =
    let family = rw c.from.ensures at c.in_ok-put_family.ensures in
    let prefixes = rw c.from-2.ensures at c.in_ok-put_number.ensures in
    then (one c.in_ok-key.ensures) (then (one c.in_ok-begin_object.ensures) (then family (then prefixes (one c.end_object.ensures))))
