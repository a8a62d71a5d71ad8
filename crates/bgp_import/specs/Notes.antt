-- What is told of a capture, sentence by sentence.
use Rattle.std.specs.Prelude.{ℕ, List, [], ◌∷◌, Option, None, Some, nat_lt, if◌then◌else◌}
use Rattle.bgp_recording.specs.declared.framing.Rest.{Rest}
use Rattle.bgp_recording.specs.declared.framing.Rest.TheVariants.{Short, BehindFault}
use Rattle.bgp_recording.specs.declared.framing.Unshown.{Unshown}
use Rattle.streams.specs.declared.passed.Side.{Side}
use Rattle.streams.specs.declared.passed.Side.TheVariants.{Local, Peer}
use Rattle.bgp_import.specs.declared.note.Note.{Note}
use Rattle.bgp_import.specs.declared.note.Note.TheVariants.{PassedOver, Left, PutOff}
use Rattle.bgp_import.specs.declared.note.Notes.{Notes}

-- on the messages that are passed over in the stream that this system sends, where any are
abbrev pub passed_note : Side → Unshown → Option Note
passed_note from unshown =
    if nat_lt 0 unshown.passed_over then Some (PassedOver from unshown.passed_over) else None

-- how many octets are left
abbrev pub left_in : Rest → ℕ
left_in (Short count) = count
left_in (BehindFault place count is_refresh) = count

-- on what is left of the stream that this system sends, where anything is
abbrev pub left_note : Side → Unshown → Option Note
left_note from unshown =
    if nat_lt 0 (left_in unshown.rest) then Some (Left from unshown.rest) else None

-- on the messages that are put off, where any are
abbrev pub put_off_note : ℕ → Option Note
put_off_note count = if nat_lt 0 count then Some (PutOff count) else None

abbrev pub notes_in_order : Notes → List (Option Note)
notes_in_order notes = passed_note Peer notes.received ∷ passed_note Local notes.sent
    ∷ left_note Peer notes.received ∷ left_note Local notes.sent
    ∷ put_off_note notes.put_off ∷ []
