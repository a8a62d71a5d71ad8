use Rattle.bgp_json_values.proofs.Chains.{one, then}
use Rattle.bgp_json_values.proofs.items.put_restart_family.Goals as goal

pub returns : goal.returns
returns g c =
    then (one c.in_ok-begin_object.ensures) (then c.in_ok-put_family_at.ensures
    (then (rw c.has_bits.ensures at c.in_ok-put_truth.ensures) (one c.end_object.ensures)))
