use Rattle.std.proofs.Common.{sym, subst}
use Rattle.streams.specs.Held.{AllSound}
use Rattle.packets_tests.proofs.stream.gather.Goals as goal
use Rattle.packets_tests.proofs.stream.gather.Goals.{in-Some+in_ok-take, in_default}

pub loop-i-preserved : goal.loop-i-preserved
loop-i-preserved g c = elim c.match-get.branch [
  | in-Some+in_ok-take w ↦ subst AllSound (sym w.connections-is) w.in_ok-take.ensures.sound
  | in_default w ↦ subst AllSound (sym w.connections-is) c.loop-i.invariant
]
