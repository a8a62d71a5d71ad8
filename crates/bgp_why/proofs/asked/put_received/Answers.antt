use Rattle.bgp_why.specs.Asked.{received_text}
use Rattle.bgp_text.proofs.Pieces.{Joins, and_then}
use Rattle.bgp_why.proofs.asked.put_received.Goals as goal

pub returns : goal.returns
unfolding received_text
returns g c =
    let law : Joins g.W.Sink = record { joined = g.met.W.Sink.joined } in
    and_then law c.put.ensures (and_then law c.put_place_at.ensures (and_then law c.put-2.ensures c.put_name.ensures))
