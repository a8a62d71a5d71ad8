use Rattle.bgp_text.proofs.Pieces.{Joins, and_then}
use Rattle.bgp_list.specs.Connections.{refused_between_text}
use Rattle.bgp_list.proofs.connection.put_refused_between.Goals as goal

pub returns : goal.returns
unfolding refused_between_text
returns g c =
    let law : Joins g.W.Sink = record { joined = g.met.W.Sink.joined } in
    and_then law c.put_place.ensures (and_then law c.put.ensures (and_then law c.put_address.ensures (and_then law c.put-2.ensures (and_then law c.put_address-2.ensures c.put_reason.ensures))))
