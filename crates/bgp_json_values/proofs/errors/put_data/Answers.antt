use Rattle.bgp_json_values.proofs.Chains.{one, then}
use Rattle.bgp_json_values.proofs.errors.put_data.Goals as goal

pub returns-in_ok-key-in-Communication : goal.returns-in_ok-key-in-Communication
returns-in_ok-key-in-Communication g c =
    rw c.in-Communication.is (then (one c.in_ok-key-in-Communication.ensures) (one c.string.ensures))
