use Rattle.bgp_text.proofs.Pieces.{Joins, and_then}
use Rattle.bgp_why.proofs.note_lines.put_note.Goals as goal

pub returns-then-is_so : goal.returns-then-is_so
returns-then-is_so g c =
    let law : Joins g.W.Sink = record { joined = g.met.W.Sink.joined } in
    rw c.if-is_so.true (and_then law c.put.ensures (and_then law c.put_note_text.ensures c.put-then-is_so.ensures))
