use Rattle.bgp_text.proofs.Pieces.{Joins, and_then}
use Rattle.bgp_list.specs.Connections.{place_text}
use Rattle.bgp_list.proofs.connection.put_place.Goals as goal

pub returns : goal.returns
unfolding place_text
returns g c =
    let law : Joins g.W.Sink = record { joined = g.met.W.Sink.joined } in
    and_then law c.put.ensures (rw c.packet.ensures at c.put_decimal.ensures)
