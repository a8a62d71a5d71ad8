use Rattle.std.proofs.Common.{◌++◌, ◌<◌, ◌≤◌, ◌∷◌, [], None, refl, length, get_or}
use Rattle.bgp_why.specs.NoteLines.{shown_notes}
use Rattle.bgp_text.proofs.Pieces.{Joins}
use Rattle.bgp_json_verdicts.specs.Lines.{note_values}
use Rattle.bgp_json_verdicts.proofs.Told.{and_tell, nothing_told}
use Rattle.bgp_verdict_lines.proofs.ItemValues.{no_note, one_note}
use Rattle.bgp_verdict_lines.proofs.notes.tell_notes.Goals as goal

pub loop-note-init : goal.loop-note-init
loop-note-init g c = ([], nothing_told g.met.W.Sink.nothing c.args.lines.now c.args.telling.now, rw c.shown_notes.ensures refl)

pub loop-note-preserved : goal.loop-note-preserved
loop-note-preserved g c =
    let law : Joins g.W.Sink = record { joined = g.met.W.Sink.joined } in
    let so_far = c.loop-note.invariant in
    let notes = c.shown_notes.result in
    let within : c.loop-note.note-index < length notes = rw c.shown_notes.ensures c.loop-note-test.true in (
      so_far.0 ++ note_values (get_or notes c.loop-note.note-index None ∷ []),
      and_tell law so_far.1 c.tell_note.ensures,
      one_note so_far.0 (note_values (shown_notes c.args.style.now.is_recording c.args.notes.now)) notes c.loop-note.note-index within so_far.2,
    )

pub returns : goal.returns
returns g c =
    let so_far = c.loop-note.invariant in
    let past : length c.shown_notes.result ≤ c.loop-note.note-index = rw c.shown_notes.ensures c.loop-note-test.false in
    rw (no_note so_far.0 (note_values (shown_notes c.args.style.now.is_recording c.args.notes.now)) c.shown_notes.result c.loop-note.note-index past so_far.2) at so_far.1
