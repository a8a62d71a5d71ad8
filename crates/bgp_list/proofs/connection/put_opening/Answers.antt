use Rattle.bgp_text.proofs.Pieces.{Joins, and_then}
use Rattle.bgp_list.specs.Connections.{opening_text}
use Rattle.bgp_list.proofs.connection.put_opening.Goals as goal

pub returns : goal.returns
unfolding opening_text
returns g c =
    let law : Joins g.W.Sink = record { joined = g.met.W.Sink.joined } in
    let text = and_then law c.put_number.ensures (and_then law c.put_endpoint.ensures (and_then law c.put.ensures (and_then law c.put_endpoint-2.ensures c.put_first.ensures))) in
    rw (c.endpoint_of.ensures, c.endpoint_of-2.ensures, c.other_side.ensures) at text
