use Rattle.bgp_why.specs.Place.{record_text}
use Rattle.bgp_text.proofs.Pieces.{Joins, and_then}
use Rattle.bgp_why.proofs.place.put_record.Goals as goal

pub returns : goal.returns
unfolding record_text
returns g c =
    let law : Joins g.W.Sink = record { joined = g.met.W.Sink.joined } in
    and_then law c.put.ensures (and_then law c.put_decimal.ensures (and_then law c.put_packet.ensures (and_then law c.put-2.ensures (and_then law c.put_when.ensures c.put-3.ensures))))
