use Rattle.std.proofs.Common.{◌≤◌, drop, length, map}
use Rattle.std.specs.List.{AllByRecursion}
use Rattle.mrt.specs.Reader.{shown_of}
use Rattle.bgp_check_text.specs.Refused.{HearsNothing}
use Rattle.bgp_check_text.proofs.refused.last_heard.Given as goal

-- those from here on show no message as received
abbrev pub invariant-loop-left : goal.invariant-loop-left
invariant-loop-left l = record {
  within : l.left ≤ length l.records;
  none : AllByRecursion HearsNothing (map shown_of (drop l.left l.records));
}

abbrev pub decreases-loop-left : goal.decreases-loop-left
decreases-loop-left l = l.left
