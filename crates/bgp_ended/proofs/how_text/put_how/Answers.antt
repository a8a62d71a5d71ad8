use Rattle.bgp_text.proofs.Pieces.{Joins, and_then}
use Rattle.bgp_ended.specs.HowText.{how_text}
use Rattle.bgp_ended.proofs.how_text.put_how.Goals as goal

pub returns-in-Notified : goal.returns-in-Notified
unfolding how_text
returns-in-Notified g c =
    let law : Joins g.W.Sink = record { joined = g.met.W.Sink.joined } in
    rw c.in-Notified.is (and_then law c.put.ensures c.put_error.ensures)

pub returns-in-Fallen : goal.returns-in-Fallen
unfolding how_text
returns-in-Fallen g c =
    let law : Joins g.W.Sink = record { joined = g.met.W.Sink.joined } in
    rw c.in-Fallen.is (and_then law c.put_state_name.ensures c.put-in-Fallen.ensures)
