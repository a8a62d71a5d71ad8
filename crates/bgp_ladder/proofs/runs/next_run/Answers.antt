use Rattle.bgp_ladder.proofs.InRuns.{run_begins, run_goes_on, some_of}
use Rattle.std.proofs.Common.{refl}
use Rattle.bgp_ladder.proofs.runs.next_run.Goals as goal

pub returns-then-run-gt0 : goal.returns-then-run-gt0
returns-then-run-gt0 c = run_goes_on c.args.ladder.now c.args.entries.now c.args.number (some_of c.args.entries.now c.args.number c.requires.within) c.requires.within c.args.run _ c.requires.run c.if-run-gt0.true refl refl

pub returns-else-run-gt0 : goal.returns-else-run-gt0
returns-else-run-gt0 c = run_begins c.args.ladder.now c.args.entries.now c.args.number (some_of c.args.entries.now c.args.number c.requires.within) c.requires.within c.args.run _ c.requires.run c.if-run-gt0.false c.run_behind-behind.ensures.run refl
