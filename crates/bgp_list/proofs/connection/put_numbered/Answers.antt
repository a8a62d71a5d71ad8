use Rattle.bgp_text.proofs.Pieces.{Joins, and_then}
use Rattle.bgp_list.specs.Connections.{numbered_text}
use Rattle.bgp_list.proofs.connection.put_numbered.Goals as goal

pub returns : goal.returns
unfolding numbered_text
returns g c =
    let law : Joins g.W.Sink = record { joined = g.met.W.Sink.joined } in
    and_then law c.put_endpoint.ensures (and_then law c.put.ensures (and_then law c.put_as.ensures c.put-2.ensures))
