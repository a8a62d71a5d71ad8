use Rattle.std.proofs.Common.{◌≤◌, take}
use Rattle.arrayvec.specs.ArrayVec.{array_vec_len}
use Rattle.bgp_machine.specs.Listed.{no_changes}
use Rattle.bgp_machine.specs.Rows.{HiddenShown, ListsRows}
use Rattle.bgp_machine.proofs.hidden.steps_of.Given as goal

-- the steps of the rows so far, no more than those
abbrev pub invariant-loop-row : goal.invariant-loop-row
invariant-loop-row l = record {
  listed : ListsRows (HiddenShown l.config l.head l.t) no_changes (take l.row-index l.rows) l.steps.items;
  room : array_vec_len l.steps ≤ l.row-index;
}
