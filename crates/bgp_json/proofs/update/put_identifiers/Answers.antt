use Rattle.bgp_json_values.proofs.Chains.{one, then}
use Rattle.bgp_json.proofs.update.put_identifiers.Goals as goal

pub returns : goal.returns
returns g c =
    then (one c.in_ok-begin_object.ensures) (then (one c.in_ok-key.ensures) (then c.in_ok-put_path_ids.ensures
    (then (one c.in_ok-key-2.ensures) (then c.in_ok-put_path_ids-2.ensures (one c.end_object.ensures)))))
