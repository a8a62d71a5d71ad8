use Rattle.std.proofs.Common.{◌≡◌, ◌≤◌, map, take}
use Rattle.mrt.specs.Reader.{shown_of}
use Rattle.bgp_check.specs.Passed.{Keeps, left_value, nothing_left}
use Rattle.bgp_check.proofs.passing.keep.Given as goal

-- the records so far are taken
abbrev pub invariant-loop-shown : goal.invariant-loop-shown
invariant-loop-shown g l = record {
  counted : l.place ≡ l.shown-index;
  few_received : l.kept.received ≤ l.shown-index;
  few_sent : l.kept.sent ≤ l.shown-index;
  kept : Keeps l.offers 0 (map shown_of (take l.shown-index l.records)) nothing_left (left_value l.kept);
}
