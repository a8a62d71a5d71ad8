use Rattle.std.proofs.Common.{codes}
use Rattle.bgp_json_values.proofs.Chains.{one, then}
use Rattle.bgp_json_values.proofs.Members.{member}
use Rattle.bgp_json_values.specs.Texts.{address_json}
use Rattle.bgp_list.proofs.session_json.put_addresses.Goals as goal

pub returns : goal.returns
returns g c =
    then (one c.in_ok-key.ensures) (then c.in_ok-put_address.ensures (member (codes "local") (address_json c.args.addresses.local) c.in_ok-key-2.ensures c.put_address-2.ensures))
