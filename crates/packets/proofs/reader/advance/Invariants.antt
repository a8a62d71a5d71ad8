use Rattle.std.proofs.Common.{◌≡◌, ◌≤◌, ◌-◌, ◌^◌, length}
use Rattle.packets.specs.Reader.{state_of}
use Rattle.packets.proofs.Advancing.{Passes}
use Rattle.packets.proofs.reader.advance.Given as goal

abbrev pub invariant-loop-progress : goal.invariant-loop-progress
invariant-loop-progress g l = record {
  room : length l.buffer ≡ 327680;
  passes : Passes g.S.Source.gives g.S.Source.has_ended g.met.S.Source.joined l.fn.source (state_of l.fn.progress l.fn.interfaces.items) l.source
      (state_of l.progress l.interfaces.items);
  number : l.progress.number ≡ l.fn.progress.number;
  one_source : l.progress.number ≤ g.S.Source.given_count l.source;
  calm : g.S.Source.failures l.source ≡ g.S.Source.failures l.fn.source;
}

abbrev pub decreases-loop-progress : goal.decreases-loop-progress
decreases-loop-progress g l = 2 ^ 63 - g.S.Source.given_count l.source
