use Rattle.bgp_text.proofs.Pieces.{Joins, and_then}
use Rattle.bgp_why.proofs.note_lines.put_without.Goals as goal

pub returns-in-Some : goal.returns-in-Some
returns-in-Some g c =
    let law : Joins g.W.Sink = record { joined = g.met.W.Sink.joined } in
    rw c.in-Some.is (and_then law c.put-in-Some.ensures (and_then law c.put_note_text.ensures c.put-in-Some-2.ensures))
