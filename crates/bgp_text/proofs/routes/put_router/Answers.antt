use Rattle.bgp_text.specs.RouteText.{router_text}
use Rattle.bgp_text.proofs.Pieces.{Joins, and_then}
use Rattle.bgp_text.proofs.routes.put_router.Goals as goal

pub returns-in-Some : goal.returns-in-Some
unfolding router_text
returns-in-Some g c =
    let law : Joins g.W.Sink = record { joined = g.met.W.Sink.joined } in
    rw c.in-Some.is (and_then law c.put.ensures c.put_ipv4.ensures)
