use Rattle.std.proofs.Common.{append-nil, sym}
use Rattle.json.specs.Tree.{json_tokens}
use Rattle.bgp_json.specs.Others.{fault_json}
use Rattle.bgp_json.proofs.faults.put_fault_if.Goals as goal

pub returns-then-at_fault : goal.returns-then-at_fault
returns-then-at_fault g c = rw c.if-at_fault.true (rw (sym (append-nil (json_tokens (fault_json c.args.subcode)))) at c.put_fault.ensures)
