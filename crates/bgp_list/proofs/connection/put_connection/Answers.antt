use Rattle.bgp_text.proofs.Pieces.{Joins, and_then}
use Rattle.bgp_list.specs.Connections.{connection_text}
use Rattle.bgp_list.proofs.connection.put_connection.Goals as goal

pub returns : goal.returns
unfolding connection_text
returns g c =
    let law : Joins g.W.Sink = record { joined = g.met.W.Sink.joined } in
    and_then law c.put_outlined.ensures (and_then law c.put_octets.ensures c.put_end.ensures)
