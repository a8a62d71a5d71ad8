use Rattle.std.proofs.Common.{List, map, take, sym, subst}
use Rattle.mrt_sessions.specs.File.{Located}
use Rattle.mrt_sessions.specs.Gathering.{Gathers}
use Rattle.mrt_sessions.specs.Located.{located}
use Rattle.mrt_sessions.proofs.Readings.{one_more}
use Rattle.mrt_sessions.proofs.sessions.Sessions.of.Goals as goal

pub loop-named-preserved : goal.loop-named-preserved
loop-named-preserved g c =
    subst (λ (ls : List Located). Gathers ls c.take.new.self) (sym (one_more c.args.records.now c.loop-named.named-index c.named-item.result c.loop-named-test.true c.named-item.is))
    (c.in_ok-take.ensures (map located (take c.loop-named.named-index c.args.records.now)) c.loop-named.invariant)
