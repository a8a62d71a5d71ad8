use Rattle.bgp_json_values.proofs.Chains.{one, then}
use Rattle.bgp_json_values.proofs.heads.put_rare_head.Goals as goal

pub returns : goal.returns
returns g c =
    let kind = rw c.from.ensures at c.in_ok-put_number.ensures in
    let name = rw c.name_of_attribute.ensures at (rw c.from-2.ensures at c.in_ok-put_name.ensures) in
    then (one c.in_ok-begin_object.ensures) (then kind (then (one c.in_ok-key.ensures) (then name (one c.key-2.ensures))))
