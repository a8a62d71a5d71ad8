use Rattle.std.proofs.Common.{arith}
use Rattle.bgp_orders.proofs.SentPlaces.{reached_at}
use Rattle.bgp_orders.proofs.sent_place.SentPlace.node_count.Goals as goal

pub returns-clause-reached : goal.returns-clause-reached
returns-clause-reached g c = λ config within exchange before is.
    reached_at config within exchange before c.args.self.now c.len.result is (omega (arith, c.len.ensures))
