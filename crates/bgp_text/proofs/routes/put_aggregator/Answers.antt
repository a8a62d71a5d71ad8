use Rattle.bgp_text.specs.RouteText.{aggregator_text}
use Rattle.bgp_text.proofs.Pieces.{Joins, and_then}
use Rattle.bgp_text.proofs.routes.put_aggregator.Goals as goal

pub returns-in-Some : goal.returns-in-Some
unfolding aggregator_text
returns-in-Some g c =
    let law : Joins g.W.Sink = record { joined = g.met.W.Sink.joined } in
    rw c.in-Some.is (and_then law c.put.ensures (and_then law c.put_decimal.ensures (and_then law c.put-in-Some.ensures c.put_ipv4.ensures)))
