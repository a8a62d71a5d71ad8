use Rattle.std.proofs.Common.{arith}
use Rattle.bgp_recording.proofs.Gave.{stands_on}
use Rattle.bgp_recording.proofs.givers.Cursor.giver.Goals as goal

pub loop-run-preserved : goal.loop-run-preserved
loop-run-preserved c = record {
  at = (
    c.loop-run.invariant.at.0,
    stands_on c.loop-run.self.runs.now c.args.self.now.runs.now c.loop-run.self.index c.loop-run.self.base c.in-Some.run'.now
        c.loop-run.invariant.at.0 c.in-Some.ensures.some c.loop-run.invariant.at.1,
  );
  base = omega arith;
}
