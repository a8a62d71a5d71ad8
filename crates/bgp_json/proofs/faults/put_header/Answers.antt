use Rattle.bgp_json_values.proofs.Chains.{one, then}
use Rattle.bgp_json.proofs.faults.put_header.Goals as goal

pub returns : goal.returns
returns g c =
    let length = rw (c.from.ensures, c.read_length.ensures) at c.in_ok-put_number.ensures in
    let kind = rw (c.from-2.ensures, c.read_type.ensures) at c.in_ok-put_number-2.ensures in
    then (one c.in_ok-key.ensures) (then c.in_ok-put_faults.ensures (then length (then kind c.put_octets_member.ensures)))
