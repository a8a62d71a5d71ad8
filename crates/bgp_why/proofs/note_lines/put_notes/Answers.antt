use Rattle.bgp_why.specs.NoteLines.{note_lines}
use Rattle.bgp_text.proofs.Pieces.{Joins, and_then}
use Rattle.bgp_why.proofs.note_lines.put_notes.Goals as goal

pub returns : goal.returns
unfolding note_lines
returns g c =
    let law : Joins g.W.Sink = record { joined = g.met.W.Sink.joined } in
    and_then law c.put_note.ensures (and_then law c.put_note-2.ensures (and_then law c.put_note-3.ensures (and_then law c.put_without.ensures (and_then law c.put_note-4.ensures (and_then law c.put_note-5.ensures (and_then law c.put_note-6.ensures (rw c.is_missing-missing.ensures at c.put_note-7.ensures)))))))
