use Rattle.bgp_text.proofs.Pieces.{Joins, and_then}
use Rattle.bgp_why.proofs.note_lines.put_note_text.Goals as goal

pub returns-in-Without : goal.returns-in-Without
returns-in-Without g c =
    let law : Joins g.W.Sink = record { joined = g.met.W.Sink.joined } in
    rw c.in-Without.is (and_then law c.put-in-Without.ensures c.put_offer.ensures)
