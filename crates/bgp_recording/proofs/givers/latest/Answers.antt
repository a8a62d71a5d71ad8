use Rattle.std.proofs.Common.{arith}
use Rattle.bgp_recording.proofs.Gave.{latest_done, latest_count}
use Rattle.bgp_recording.proofs.givers.latest.Goals as goal

pub returns-clause-latest : goal.returns-clause-latest
returns-clause-latest g c =
    latest_done c.args.runs.now c.loop-run.out.items c.loop-run.best c.loop-run.run-index (omega arith) c.loop-run.invariant c.requires

pub returns-clause-count : goal.returns-clause-count
returns-clause-count g c =
    latest_count c.args.runs.now c.loop-run.out.items c.loop-run.best c.loop-run.run-index (omega arith) c.loop-run.invariant
