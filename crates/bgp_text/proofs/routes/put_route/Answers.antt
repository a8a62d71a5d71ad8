use Rattle.bgp_text.specs.RouteText.{route_text}
use Rattle.bgp_text.proofs.Pieces.{Joins, and_then}
use Rattle.bgp_text.proofs.routes.put_route.Goals as goal

pub returns : goal.returns
unfolding route_text
returns g c =
    let law : Joins g.W.Sink = record { joined = g.met.W.Sink.joined } in
    let as_path = rw c.segments.ensures.segments at c.put_as_path.ensures in
    let origin = rw c.origin_number.ensures at c.put_decimal.ensures in
    let optional = rw (← c.parts-parts.ensures.value) at c.put_optional.ensures in
    rw (← c.parts-parts.ensures.value)
    (and_then law c.put_destination.ensures (and_then law c.put.ensures (and_then law c.put_next_hop.ensures (and_then law c.put-2.ensures
    (and_then law as_path (and_then law c.put-3.ensures (and_then law origin optional)))))))
