use Rattle.std.proofs.Common.{◌≤◌, take}
use Rattle.arrayvec.specs.ArrayVec.{array_vec_len}
use Rattle.mrt.specs.Reader.{shown_of}
use Rattle.bgp_judge.proofs.KeptSteps.{OpensSoFar}
use Rattle.bgp_judge.proofs.opening.own_openings.Given as goal

-- those of the steps so far that the record opens, no more than there are steps
abbrev pub invariant-loop-step : goal.invariant-loop-step
invariant-loop-step l = record {
  opened : OpensSoFar l.config l.head (shown_of l.shown) (take l.step-index l.steps) l.openings.items;
  room : array_vec_len l.openings ≤ l.step-index;
}
