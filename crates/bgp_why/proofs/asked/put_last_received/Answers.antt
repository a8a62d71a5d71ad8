use Rattle.bgp_why.specs.Asked.{last_received_line}
use Rattle.bgp_text.proofs.Pieces.{Joins, and_then}
use Rattle.bgp_why.proofs.asked.put_last_received.Goals as goal

pub returns : goal.returns
unfolding last_received_line
returns g c =
    let law : Joins g.W.Sink = record { joined = g.met.W.Sink.joined } in
    and_then law c.put.ensures (and_then law c.put_received.ensures (and_then law c.put_asked.ensures c.put-2.ensures))
