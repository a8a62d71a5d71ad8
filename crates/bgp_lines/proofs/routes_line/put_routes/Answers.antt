use Rattle.bgp_lines.specs.RoutesLine.{routes_text}
use Rattle.bgp_text.proofs.Pieces.{Joins, and_then}
use Rattle.bgp_lines.proofs.routes_line.put_routes.Goals as goal

pub returns-in-Unicast : goal.returns-in-Unicast
unfolding routes_text
returns-in-Unicast g c =
    let law : Joins g.W.Sink = record { joined = g.met.W.Sink.joined } in
    rw c.in-Unicast.is (and_then law c.put.ensures (and_then law c.put_unicast_name.ensures (and_then law c.put_via.ensures (and_then law c.put-in-Unicast.ensures c.put_destinations.ensures))))
