use Rattle.bgp_json_values.proofs.Chains.{one, then}
use Rattle.bgp_json.proofs.open.put_fault.Goals as goal

pub returns : goal.returns
returns g c =
    let number = rw (c.from.ensures, c.number.ensures) at c.in_ok-put_number.ensures in
    then number (then (one c.in_ok-key.ensures) (then c.in_ok-put_fault_name.ensures c.put_octets_member.ensures))
