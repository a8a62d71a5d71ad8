use Rattle.bgp_open.specs.Capability.{capability_of}
use Rattle.bgp_json_values.specs.CapabilityJson.{capability_members}
use Rattle.bgp_json_values.proofs.Chains.{one, then}
use Rattle.bgp_json_values.proofs.Members.{object}
use Rattle.bgp_json_values.proofs.capabilities.put_capability.Goals as goal

pub returns : goal.returns
returns g c =
    let code = rw c.from.ensures at c.in_ok-put_number.ensures in
    let name = rw c.name_of_capability.ensures at (rw c.from-2.ensures at c.in_ok-put_name.ensures) in
    let said = rw c.of.ensures at c.in_ok-put_said.ensures in
    object (capability_members (capability_of c.args.capability)) c.in_ok-begin_object.ensures
    (then code (then (one c.in_ok-key.ensures) (then name said))) c.end_object.ensures
