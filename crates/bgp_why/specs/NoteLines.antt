-- The texts of notes, and their lines.
use Rattle.std.specs.Prelude.{◌++◌, ◌&&◌, not, ℕ, Bool, List, [], ◌∷◌, Option, None, Some}
use Rattle.std.specs.Prelude.{if◌then◌else◌, codes}
use Rattle.std.specs.Bool.{then_some}
use Rattle.bgp_open.specs.declared.route_offer.RouteOffer.{RouteOffer}
use Rattle.bgp_why_parts.specs.Offers.{offer_text}
use Rattle.bgp_why.specs.declared.note_lines.Note.{Note}
use Rattle.bgp_why.specs.declared.note_lines.Note.TheVariants as said
use Rattle.bgp_why.specs.declared.notes.Notes.{Notes}
use Rattle.bgp_why.specs.Style.{line}

abbrev pub note_text : Note → List ℕ
note_text said.MayBeRefused =
    codes "a router may refuse any OPEN of version 4 with 2/6 (Unacceptable Hold Time), "
    ++ codes "2/7 (Unsupported Capability) or 2/11 (Role Mismatch)"
note_text said.BeginsElsewhere =
    codes "the file does not begin where the session does, with a change from Idle to "
    ++ codes "Connect or to Active"
note_text said.OpenCameFirst =
    codes "the OPEN was received before one was sent: --delay-open allows that"
note_text (said.Without offer) =
    codes "judged without what both OPENs offer: --offers " ++ offer_text offer
note_text said.ExtendedParameters =
    codes "the OPEN received has extended parameters (RFC 9072), which are not judged"
note_text said.KeepaliveWithoutHold =
    codes "with Hold Time 0 no KEEPALIVE is sent but the one that answers the OPEN"
note_text said.MayHaveEnded =
    codes "the connection may have ended before what was due was written"
note_text said.MayBeMissing =
    codes "a sent message may be missing from the file here, or come later in it"

abbrev pub note_said : Note → List ℕ
note_said note = codes "note: " ++ note_text note

-- ---- the lines

-- this is judged without what both OPENs offer; the OPEN that was sent offers this
abbrev pub without_line : Option RouteOffer → List ℕ
without_line None = []
without_line (Some offer) = line (note_said (said.Without offer))

-- a note, where something is so
abbrev pub note_line : Bool → List ℕ → List ℕ
note_line is_so note = if is_so then line note else []

-- the notes, a line each; no message is missing from a recording
unfoldable pub note_lines : Bool → Notes → List ℕ
note_lines is_recording notes =
    note_line notes.may_be_refused (note_said said.MayBeRefused)
    ++ (note_line notes.begins_elsewhere (note_said said.BeginsElsewhere)
    ++ (note_line notes.open_came_first (note_said said.OpenCameFirst)
    ++ (without_line notes.without
    ++ (note_line notes.extended_parameters (note_said said.ExtendedParameters)
    ++ (note_line notes.keepalive_without_hold (note_said said.KeepaliveWithoutHold)
    ++ (note_line notes.may_have_ended (note_said said.MayHaveEnded)
    ++ note_line (notes.may_be_missing && not is_recording)
    (note_said said.MayBeMissing)))))))

-- ---- the same as a list

abbrev pub without_note : Option RouteOffer → Option Note
without_note None = None
without_note (Some offer) = Some (said.Without offer)

-- each note that there is, or none in its place, in the order of the lines
abbrev pub shown_notes : Bool → Notes → List (Option Note)
shown_notes is_recording notes =
    then_some notes.may_be_refused said.MayBeRefused
    ∷ then_some notes.begins_elsewhere said.BeginsElsewhere
    ∷ then_some notes.open_came_first said.OpenCameFirst
    ∷ without_note notes.without
    ∷ then_some notes.extended_parameters said.ExtendedParameters
    ∷ then_some notes.keepalive_without_hold said.KeepaliveWithoutHold
    ∷ then_some notes.may_have_ended said.MayHaveEnded
    ∷ then_some (notes.may_be_missing && not is_recording) said.MayBeMissing
    ∷ []
