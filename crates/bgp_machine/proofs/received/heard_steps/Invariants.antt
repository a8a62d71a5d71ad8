use Rattle.std.proofs.Common.{◌≤◌, ℕ, List, take}
use Rattle.arrayvec.specs.ArrayVec.{array_vec_len}
use Rattle.bgp_machine.specs.Listed.{no_changes}
use Rattle.bgp_machine.specs.Rows.{HeardShown, ListsRows}
use Rattle.bgp_machine.proofs.received.heard_steps.Given as goal

-- the steps of the rows so far, no more than those
abbrev pub invariant-loop-row : goal.invariant-loop-row
invariant-loop-row l = record {
  listed : (octets : List ℕ) → ListsRows (HeardShown l.head l.t octets l.message) no_changes (take l.row-index l.rows) l.steps.items;
  room : array_vec_len l.steps ≤ l.row-index;
}
