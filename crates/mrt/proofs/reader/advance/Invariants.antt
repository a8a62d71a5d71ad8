use Rattle.std.proofs.Common.{◌≡◌, ◌≤◌, ◌-◌, ◌^◌, length}
use Rattle.mrt.specs.Progress.{state_of}
use Rattle.mrt.proofs.Advancing.{Passes}
use Rattle.mrt.proofs.reader.advance.Given as goal

abbrev pub invariant-loop-progress : goal.invariant-loop-progress
invariant-loop-progress g l = record {
  room : length l.buffer ≡ 65583;
  passes : Passes g.S.Source.gives g.S.Source.has_ended g.met.S.Source.joined l.session l.fn.source (state_of l.fn.progress) l.source (state_of l.progress);
  one_source : l.progress.passed ≤ g.S.Source.given_count l.source;
  calm : g.S.Source.failures l.source ≡ g.S.Source.failures l.fn.source;
}

abbrev pub decreases-loop-progress : goal.decreases-loop-progress
decreases-loop-progress g l = 2 ^ 63 - g.S.Source.given_count l.source
