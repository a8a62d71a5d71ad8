use Rattle.bgp_json_values.proofs.Chains.{one, then}
use Rattle.bgp_json.proofs.faults.put_fault.Goals as goal

pub returns : goal.returns
returns g c =
    let code = rw (c.from.ensures, c.code-code.ensures) at c.in_ok-put_number.ensures in
    let subcode = rw c.from-2.ensures at c.in_ok-put_number-2.ensures in
    let name = rw c.code-code.ensures at c.in_ok-put_error_name.ensures in
    then (one c.in_ok-begin_object.ensures) (then code (then subcode (then (one c.in_ok-key.ensures) (then name (one c.end_object.ensures)))))
