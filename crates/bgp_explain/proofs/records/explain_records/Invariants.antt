use Rattle.std.proofs.Common.{◌≤◌, map, take}
use Rattle.mrt.specs.Reader.{shown_of}
use Rattle.bgp_explain.specs.Progress.{IsAt}
use Rattle.bgp_explain.proofs.records.explain_records.Given as goal

-- how far the judging has come with the records so far
abbrev pub invariant-loop-shown : goal.invariant-loop-shown
invariant-loop-shown g l = record {
  at : IsAt (g.T.Tracker.stands_for l.tracker) l.config (map shown_of (take l.shown-index l.records)) l.progress;
  few : l.progress.count ≤ l.shown-index;
}
