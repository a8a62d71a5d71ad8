use Rattle.bgp_json_values.proofs.Chains.{one, then}
use Rattle.bgp_json_values.proofs.capabilities.put_said.Goals as goal

pub returns-in_ok-is_spelled-in-Some : goal.returns-in_ok-is_spelled-in-Some
returns-in_ok-is_spelled-in-Some g c =
    let octets = rw c.in_ok-is_spelled-in-Some.ensures at c.put_unless.ensures in
    rw c.in-Some.is (then (one c.in_ok-key-in-Some.ensures) (then c.in_ok-put_value-in-Some.ensures octets))
