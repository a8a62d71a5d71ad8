use Rattle.std.proofs.Common.{◌≡◌, ◌++◌, List, drop}
use Rattle.bgp_why.specs.NoteLines.{shown_notes}
use Rattle.bgp_json_verdicts.specs.Lines.{LineValue, note_values}
use Rattle.bgp_json_verdicts.specs.Telling.{Tells}
use Rattle.bgp_verdict_lines.proofs.notes.tell_notes.Given as goal

-- what is told and what is left to tell are all
abbrev pub invariant-loop-note : goal.invariant-loop-note
invariant-loop-note g l =
    (told : List LineValue) × Tells l.fn.telling l.telling l.fn.lines l.lines told
    × (told ++ note_values (drop l.note-index l.note-items) ≡ note_values (shown_notes l.fn.style.is_recording l.fn.notes))
