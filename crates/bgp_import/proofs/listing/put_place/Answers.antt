use Rattle.bgp_text.proofs.Pieces.{Joins, and_then}
use Rattle.bgp_import.proofs.listing.put_place.Goals as goal

pub returns-in-Some : goal.returns-in-Some
returns-in-Some g c =
    let law : Joins g.W.Sink = record { joined = g.met.W.Sink.joined } in
    let text = and_then law c.put.ensures (and_then law c.put-in-Some.ensures (and_then law c.put-in-Some-2.ensures c.put_decimal.ensures)) in
    rw c.in-Some.is (rw (c.as_bytes.ensures.value, c.direction.ensures) at text)

pub returns-in-None : goal.returns-in-None
returns-in-None g c = rw c.in-None.is c.put-in-None.ensures
