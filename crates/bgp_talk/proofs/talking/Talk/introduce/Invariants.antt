use Rattle.std.proofs.Common.{◌≡◌, ℕ, [], Bool, length, IsTrue}
use Rattle.bgp_talk.specs.Account.{first_owed}
use Rattle.bgp_talk.specs.CoreFacts.{is_idle}
use Rattle.bgp_talk.specs.Talk.{Went, capture_of, in_hand}
use Rattle.bgp_talk.specs.declared.wire.Connection.{Connection}
use Rattle.bgp_talk.proofs.talking.Talk.introduce.Given as goal

abbrev pub invariant-loop-first : goal.invariant-loop-first
invariant-loop-first g l = record {
  went : (passive : Bool) (connection : Connection) (left : ℕ) → Went g.W.Wire.tells g.C.Sink.takes (capture_of l.fn.self.config)
      (in_hand (first_owed l.own passive) [] connection left l.fn.self.core) l.fn.wire l.fn.sink
      (in_hand (first_owed l.rest passive) [] connection left l.self.core) l.wire l.sink;
  idle : IsTrue (is_idle l.self.core);
  config : l.self.config ≡ l.fn.self.config;
  connection : g.W.Wire.connection l.wire ≡ g.W.Wire.connection l.fn.wire;
  steady : g.W.Wire.failures l.wire ≡ g.W.Wire.failures l.fn.wire;
  calm : g.C.Sink.failures l.sink ≡ g.C.Sink.failures l.fn.sink;
}

abbrev pub decreases-loop-first : goal.decreases-loop-first
decreases-loop-first g l = length l.rest
