use Rattle.std.proofs.Common.{is_some}
use Rattle.bgp_lines.specs.Others.{subcode_if}
use Rattle.bgp_json.proofs.Tokens.{array, then_values}
use Rattle.bgp_json.specs.Others.{fault_json}
use Rattle.bgp_json.proofs.faults.put_faults.Goals as goal

pub returns : goal.returns
returns g c =
    let faults = c.args.faults in
    let first = subcode_if faults.marker 1 in
    let second = subcode_if (is_some faults.length) 2 in
    let third = subcode_if (is_some faults.kind) 3 in
    let put_second = rw c.is_some.ensures at c.in_ok-put_fault_if-2.ensures in
    let put_third = rw c.is_some-2.ensures at c.in_ok-put_fault_if-3.ensures in
    array fault_json _ c.in_ok-begin_array.ensures
    (then_values fault_json first _ c.in_ok-put_fault_if.ensures (then_values fault_json second third put_second put_third)) c.end_array.ensures
