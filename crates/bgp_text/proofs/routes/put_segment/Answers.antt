use Rattle.bgp_text.specs.RouteText.{segment_text}
use Rattle.bgp_text.proofs.Pieces.{Joins, and_then}
use Rattle.bgp_text.proofs.routes.put_segment.Goals as goal

pub returns-in-Set : goal.returns-in-Set
unfolding segment_text
returns-in-Set g c =
    let law : Joins g.W.Sink = record { joined = g.met.W.Sink.joined } in
    let text = and_then law c.put.ensures (and_then law c.put_numbers-in-Set.ensures c.put-in-Set.ensures) in
    let text = rw c.numbers-in-Set.ensures.numbers at text in
    rw (← c.in-Set.ensures.kind) text
