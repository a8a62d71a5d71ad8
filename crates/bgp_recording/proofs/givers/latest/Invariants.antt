use Rattle.std.proofs.Common.{◌≡◌, ◌++◌, None, drop}
use Rattle.bgp_recording.proofs.Gave.{latest_from}
use Rattle.bgp_recording.proofs.givers.latest.Given as goal

abbrev pub invariant-loop-run : goal.invariant-loop-run
invariant-loop-run g l =
    l.out.items ++ latest_from l.best (drop l.run-index l.runs) ≡ latest_from None l.runs
