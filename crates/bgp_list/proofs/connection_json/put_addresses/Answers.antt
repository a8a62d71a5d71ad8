use Rattle.bgp_json_values.proofs.Chains.{one, then}
use Rattle.bgp_list.proofs.connection_json.put_addresses.Goals as goal

pub returns : goal.returns
returns g c =
    then (one c.in_ok-key.ensures) (then (one c.in_ok-begin_array.ensures) (then c.in_ok-put_address.ensures (then c.in_ok-put_address-2.ensures (one c.end_array.ensures))))
