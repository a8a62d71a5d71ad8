-- Outcomes with the same status, the same counts of what was skipped and the same note.
use Rattle.std.proofs.Common.{◌≡◌, ◌∙◌, ℕ, Bool, Option, sym, ap}
use Rattle.mrt.specs.declared.skipped.SkippedRecords.{SkippedRecords}
use Rattle.bgp_tool.specs.declared.note.Note.{Note}
use Rattle.bgp_tool.specs.declared.opened.Outcome.{Outcome}
use Rattle.bgp_explain.specs.declared.left_out.LeftOut.{LeftOut}
use Rattle.bgp_explain.specs.declared.opened.JudgedCapture.{JudgedCapture}

-- an outcome by its parts
abbrev pub outcome_of : ℕ → Option SkippedRecords → Option Note → Outcome
outcome_of status skipped note = record { status = status; skipped = skipped; note = note }

pub same_outcome : (outcome : Outcome) (status : ℕ) (skipped : Option SkippedRecords) (note : Option Note) → status ≡ outcome.status
    → skipped ≡ outcome.skipped → note ≡ outcome.note → outcome ≡ outcome_of status skipped note
same_outcome outcome status skipped note same_status same_skipped same_note =
    ap (λ (n : Option Note). outcome_of outcome.status outcome.skipped n) (sym same_note)
    ∙ ap (λ (s : Option SkippedRecords). outcome_of outcome.status s note) (sym same_skipped)
    ∙ ap (λ (s : ℕ). outcome_of s skipped note) (sym same_status)

-- and so are those of a capture that is judged, which find a confederation or none, and leave the
-- same out
abbrev judged_of : Outcome → Bool → LeftOut → JudgedCapture
judged_of outcome confederation left_out = record { outcome = outcome; confederation = confederation; left_out = left_out }

pub same_judged : (judged : JudgedCapture) (status : ℕ) (skipped : Option SkippedRecords) (note : Option Note) (confederation : Bool) (left_out : LeftOut)
    → status ≡ judged.outcome.status → skipped ≡ judged.outcome.skipped → note ≡ judged.outcome.note → confederation ≡ judged.confederation
    → left_out ≡ judged.left_out → judged ≡ judged_of (outcome_of status skipped note) confederation left_out
same_judged judged status skipped note confederation left_out same_status same_skipped same_note same same_left =
    ap (λ (o : Outcome). judged_of o judged.confederation judged.left_out) (same_outcome judged.outcome status skipped note same_status same_skipped same_note)
    ∙ ap (λ (b : Bool). judged_of (outcome_of status skipped note) b judged.left_out) (sym same)
    ∙ ap (λ (l : LeftOut). judged_of (outcome_of status skipped note) confederation l) (sym same_left)
