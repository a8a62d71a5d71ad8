use Rattle.bgp_json_values.proofs.Chains.{one, then}
use Rattle.bgp_json_values.proofs.capabilities.put_restart.Goals as goal

pub returns : goal.returns
returns g c =
    let time = rw c.from.ensures at c.in_ok-put_number.ensures in
    then (one c.in_ok-begin_object.ensures) (then c.in_ok-put_truth.ensures (then c.in_ok-put_truth-2.ensures
    (then time (then (one c.in_ok-key.ensures) (then c.in_ok-put_items.ensures (one c.end_object.ensures))))))
