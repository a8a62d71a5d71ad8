use Rattle.streams.specs.Held.{AllSound}
use Rattle.packets_tests.proofs.stream.gather.Given as goal

abbrev pub invariant-loop-i : goal.invariant-loop-i
invariant-loop-i g l = AllSound l.connections
