use Rattle.bgp_lines.specs.RoutesLine.{via_text}
use Rattle.bgp_text.proofs.Pieces.{Joins, and_then}
use Rattle.bgp_lines.proofs.routes_line.put_via.Goals as goal

pub returns-in-Some : goal.returns-in-Some
unfolding via_text
returns-in-Some g c =
    let law : Joins g.W.Sink = record { joined = g.met.W.Sink.joined } in
    rw c.in-Some.is (and_then law c.put-in-Some.ensures c.put_next_hop.ensures)
