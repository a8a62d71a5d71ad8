use Rattle.std.proofs.Common.{◌≡◌, ◌≤◌, ◌+◌, ◌⊎◌, [], IsTrue}
use Rattle.bgp_talk.specs.CoreFacts.{is_resting}
use Rattle.bgp_talk.specs.declared.wire.Connection.TheVariants.{Stands}
use Rattle.bgp_talk.specs.Talk.{Went, capture_of, in_hand}
use Rattle.bgp_talk.proofs.talking.Talk.take_turns.Given as goal

abbrev pub invariant-loop-left : goal.invariant-loop-left
invariant-loop-left g l = record {
  went : Went g.W.Wire.tells g.C.Sink.takes (capture_of l.fn.self.config)
      (in_hand [] [] Stands l.turns l.fn.self.core) l.fn.wire l.fn.sink
      (in_hand [] [] Stands l.left l.self.core) l.wire l.sink;
  within : l.left ≤ l.turns;
  config : l.self.config ≡ l.fn.self.config;
  stands : g.W.Wire.connection l.wire ≡ Stands;
  few : g.W.Wire.failures l.wire ≤ g.W.Wire.failures l.fn.wire + 3;
  steady : IsTrue (is_resting l.self.core) ⊎ (g.W.Wire.failures l.wire ≡ g.W.Wire.failures l.fn.wire);
  calm : g.C.Sink.failures l.sink ≡ g.C.Sink.failures l.fn.sink;
}

abbrev pub decreases-loop-left : goal.decreases-loop-left
decreases-loop-left g l = l.left
