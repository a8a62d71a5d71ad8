use Rattle.bgp_text.proofs.Pieces.{Joins, and_then}
use Rattle.bgp_text.proofs.messages.put_message.Goals as goal

pub returns : goal.returns
returns g c = λ message says.
    let law : Joins g.W.Sink = record { joined = g.met.W.Sink.joined } in
    and_then law (c.put_message_text.ensures message says) c.put.ensures
