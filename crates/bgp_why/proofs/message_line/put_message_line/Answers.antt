use Rattle.bgp_text.proofs.Pieces.{Joins, and_then}
use Rattle.bgp_why.proofs.message_line.put_message_line.Goals as goal

pub returns : goal.returns
returns g c = λ text front.
    let law : Joins g.W.Sink = record { joined = g.met.W.Sink.joined } in
    and_then law c.put.ensures (and_then law (c.put_cut.ensures text front) c.put-2.ensures)
