use Rattle.bgp_json_values.proofs.Chains.{one, then}
use Rattle.bgp_list.proofs.members.put_pair.Goals as goal

pub returns : goal.returns
returns g c =
    then (one c.in_ok-key.ensures) (then (one c.in_ok-begin_array.ensures) (then (one c.in_ok-u64.ensures) (then (one c.in_ok-u64-2.ensures) (one c.end_array.ensures))))
