use Rattle.std.proofs.Common.{◌↔◌, IsTrue, ◌≡◌, ◌≤◌, ◌-◌, ◌^◌, List, length}
use Rattle.bgp_prefix.specs.Shown.{ShownRecord}
use Rattle.mrt.specs.Capture.{micros_of}
use Rattle.bgp_judge.proofs.CaptureSoFar.{SoFar}
use Rattle.bgp_parts.specs.Confederations.{SomeShowConfederations}
use Rattle.bgp_explain.specs.Fractions.{AreKept, progress_names}
use Rattle.bgp_explain.specs.Progress.{IsAt}
use Rattle.bgp_explain.proofs.capture.follow.Given as goal

-- what was read so far, how far the judging has come with it, whether it shows a confederation, how many records it has, and the fractions of those that are named
abbrev pub invariant-loop-shown : goal.invariant-loop-shown
invariant-loop-shown g l = record {
  so_far : (records : List ShownRecord) × (so : SoFar g.S.Source.gives g.S.Source.has_ended g.met.S.Source.joined g.S.Source.given_count g.met.S.Source.counted l.config l.fn.source g.T.Tracker.may_lack l.source l.reader records) × IsAt (g.T.Tracker.stands_for l.tracker) l.config records l.progress × (IsTrue l.confederation ↔ SomeShowConfederations records) × (l.number ≡ length records) × AreKept (micros_of so.pieces) (progress_names l.progress) l.fractions;
  few : l.progress.count ≤ l.reader.passed;
  counted : l.number ≤ l.reader.passed;
  one_source : l.reader.passed ≤ g.S.Source.given_count l.source;
  calm : g.S.Source.failures l.source ≡ g.S.Source.failures l.fn.source;
}

abbrev pub decreases-loop-shown : goal.decreases-loop-shown
decreases-loop-shown g l = 2 ^ 63 - g.S.Source.given_count l.source
