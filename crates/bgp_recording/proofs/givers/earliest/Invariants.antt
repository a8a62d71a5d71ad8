use Rattle.std.proofs.Common.{◌≡◌, ◌++◌, length, reverse}
use Rattle.bgp_recording.proofs.Gave.{earliest_onto}
use Rattle.bgp_recording.proofs.givers.earliest.Given as goal

abbrev pub invariant-loop-run : goal.invariant-loop-run
invariant-loop-run g l =
    earliest_onto l.best l.left ++ reverse l.out.items ≡ earliest_onto l.fn.end l.runs

abbrev pub decreases-loop-run : goal.decreases-loop-run
decreases-loop-run g l = length l.left
