use Rattle.std.proofs.Common.{◌≤◌, ℕ, List, take}
use Rattle.arrayvec.specs.ArrayVec.{array_vec_len}
use Rattle.bgp_machine.specs.Listed.{changes_of}
use Rattle.bgp_machine.specs.Rows.{AreOutcomes, ListsRows, UpdateShown, update_rows}
use Rattle.bgp_machine.proofs.updates.update_steps.Given as goal

-- the steps of the rows so far, no more than those
abbrev pub invariant-loop-row : goal.invariant-loop-row
invariant-loop-row g l = record {
  listed : (octets : List ℕ) → AreOutcomes l.own octets l.outcomes → ListsRows (UpdateShown l.own l.timer l.t octets) (changes_of l.outcomes.changes) (take l.row-index update_rows) l.steps.items;
  room : array_vec_len l.steps ≤ l.row-index;
}
