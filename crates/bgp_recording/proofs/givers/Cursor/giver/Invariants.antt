use Rattle.std.proofs.Common.{◌≤◌, ◌-◌, length}
use Rattle.bgp_recording.specs.Givers.{IsAt}
use Rattle.bgp_recording.proofs.givers.Cursor.giver.Given as goal

abbrev pub invariant-loop-run : goal.invariant-loop-run
invariant-loop-run l = record { at : IsAt l.fn.self.runs.now l.self; base : l.self.base ≤ l.place }

abbrev pub decreases-loop-run : goal.decreases-loop-run
decreases-loop-run l = length l.self.runs.now - l.self.index
