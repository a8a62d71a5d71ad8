use Rattle.bgp_json_values.proofs.Chains.{one, then}
use Rattle.bgp_json_values.proofs.errors.put_plain_error.Goals as goal

pub returns : goal.returns
returns g c =
    let code = rw c.from.ensures at c.in_ok-put_number.ensures in
    let subcode = rw c.from-2.ensures at c.in_ok-put_number-2.ensures in
    let said = rw c.of.ensures at c.put_said.ensures in
    then code (then subcode (then (one c.in_ok-key.ensures) (then c.in_ok-put_error_name.ensures
    (then (one c.in_ok-key-2.ensures) (then c.in_ok-put_octets.ensures said)))))
