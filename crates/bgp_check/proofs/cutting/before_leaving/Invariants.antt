use Rattle.std.proofs.Common.{◌≡◌, map, take}
use Rattle.bgp_machine.specs.Lists.{Each}
use Rattle.mrt.specs.Reader.{shown_of}
use Rattle.bgp_check.specs.Stretch.{LeavesIdle}
use Rattle.bgp_check.proofs.cutting.before_leaving.Given as goal

-- none so far leaves Idle
abbrev pub invariant-loop-shown : goal.invariant-loop-shown
invariant-loop-shown l = record {
  counted : l.count ≡ l.shown-index;
  none : Each (λ shown. ¬ LeavesIdle shown) (map shown_of (take l.shown-index l.records));
}
