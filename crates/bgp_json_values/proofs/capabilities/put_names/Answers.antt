use Rattle.bgp_json_values.proofs.Chains.{one, then}
use Rattle.bgp_json_values.proofs.capabilities.put_names.Goals as goal

pub returns : goal.returns
returns g c =
    then (one c.in_ok-begin_object.ensures) (then (one c.in_ok-key.ensures) (then (one c.in_ok-string.ensures)
    (then (one c.in_ok-key-2.ensures) (then (one c.in_ok-string-2.ensures) (one c.end_object.ensures)))))
