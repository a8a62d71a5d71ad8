use Rattle.bgp_json_values.proofs.Chains.{then}
use Rattle.bgp_json_values.proofs.times.put_time.Goals as goal

pub returns : goal.returns
returns g c = let second = rw c.from.ensures at c.in_ok-put_number.ensures in then second c.put_micro.ensures
