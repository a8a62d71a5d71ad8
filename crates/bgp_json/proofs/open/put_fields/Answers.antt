use Rattle.std.proofs.Common.{codes}
use Rattle.bgp_json_values.proofs.Chains.{one, then}
use Rattle.bgp_json_values.proofs.Members.{member}
use Rattle.bgp_json_values.specs.CapabilityJson.{capabilities_json}
use Rattle.bgp_json.proofs.open.put_fields.Goals as goal

pub returns : goal.returns
returns g c =
    let my_as = rw (c.from.ensures, c.my_as.ensures) at c.in_ok-put_number.ensures in
    let hold = rw (c.from-2.ensures, c.hold.ensures) at c.in_ok-put_number-2.ensures in
    let id = rw c.id.ensures at c.in_ok-put_address.ensures in
    let capabilities = rw c.caps.ensures at c.put_capabilities.ensures in
    then my_as (then hold (then (one c.in_ok-key.ensures) (then id (member (codes "capabilities") (capabilities_json c.args.message.now.capabilities) c.in_ok-key-2.ensures capabilities))))
