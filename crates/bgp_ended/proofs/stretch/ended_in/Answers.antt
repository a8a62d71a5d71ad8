use Rattle.bgp_ended.specs.Stretch.{ended_stretch_value}
use Rattle.bgp_ended.proofs.Stretches.{ended_at}
use Rattle.bgp_ended.proofs.stretch.ended_in.Goals as goal

pub returns-in-Some : goal.returns-in-Some
returns-in-Some c =
    let found = c.in-Some.ensures.some in
    ended_at c.args.records.now c.loop-before.before _ (ended_stretch_value c.in-Some.ended) c.loop-before-test.true c.loop-before.invariant found.0 found.1 found.2
