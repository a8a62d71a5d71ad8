use Rattle.bgp_text.proofs.Pieces.{Joins, and_then}
use Rattle.bgp_list.specs.Connections.{refused_text}
use Rattle.bgp_list.proofs.connection.put_refused.Goals as goal

pub returns : goal.returns
unfolding refused_text
returns g c =
    let law : Joins g.W.Sink = record { joined = g.met.W.Sink.joined } in
    and_then law c.put_place.ensures c.put_reason.ensures
