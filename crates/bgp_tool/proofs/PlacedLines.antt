-- The lines of records, one after another, in each form.
use Rattle.std.proofs.Common.{◌≡◌, ◌∙◌, ◌+◌, ◌++◌, ℕ, List, [], ◌∷◌, length, map, refl, sym, ap, subst, arith, append_assoc, append-nil, None}
use Rattle.bgp_prefix.specs.Shown.{ShownRecord}
use Rattle.bgp_prefix.specs.declared.session.Session.{Session}
use Rattle.mrt.specs.declared.fault.CaptureFault.{CaptureFault}
use Rattle.bgp_text.specs.Capture.{AreRecordLines}
use Rattle.bgp_json.specs.Form.{Before, PlacedRecord, before_behind}
use Rattle.bgp_json.specs.LinesTelling.{placed_as}
use Rattle.bgp_json.specs.LineForm.TheVariants.{Plain}
use Rattle.bgp_json.specs.Others.{capture_json}
use Rattle.bgp_json.specs.Output.{AreRecordOutputs, IsJson, IsJsonLine, IsRecordOutput, refusal_output}
use Rattle.bgp_json.specs.declared.output_form.OutputForm.{OutputForm}
use Rattle.bgp_json.specs.declared.output_form.OutputForm.TheVariants.{Text, Json}

-- what came before the next record, where these records came behind what was before them
abbrev pub came_before : List ShownRecord → Before → Before
came_before [] before = before
came_before (shown ∷ records) before = came_before records (before_behind shown before)

pub came_one_more : (records : List ShownRecord) (shown : ShownRecord) (before : Before)
    → came_before (records ++ shown ∷ []) before ≡ before_behind shown (came_before records before)
came_one_more [] shown before = refl
came_one_more (one ∷ records) shown before = came_one_more records shown (before_behind one before)

-- the lines of a capture's records, and of one more, which has this number
pub one_more : (form : OutputForm) (session : Session) (before : Before) (number count : ℕ) (records : List ShownRecord) (text : List ℕ) (shown : ShownRecord)
    (line : List ℕ) → count ≡ number + length records → AreRecordOutputs form session before number (map (placed_as None) records) text
    → IsRecordOutput form session (came_before records before) count (placed_as None shown) line
    → AreRecordOutputs form session before number (map (placed_as None) (records ++ shown ∷ [])) (text ++ line)
one_more form session before number count [] text shown line counted are is =
    let same : count ≡ number = omega (arith, counted) in (
      line,
      [],
      subst (λ (n : ℕ). IsRecordOutput form session before n (placed_as None shown) line) same is,
      refl,
      ap (λ (t : List ℕ). t ++ line) are ∙ sym (append-nil line),
    )
one_more form session before number count (one ∷ records) text shown line counted are is = (
  are.0,
  are.1 ++ line,
  are.2,
  one_more form session (before_behind one before) (number + 1) count records are.1 shown line (omega (arith, counted)) are.3 is,
  ap (λ (t : List ℕ). t ++ line) are.4 ∙ append_assoc are.0 are.1 line,
)

-- in the plain form a line is the record's own
pub plain_lines : (session : Session) (before : Before) (number : ℕ) (records : List PlacedRecord) (text : List ℕ)
    → AreRecordOutputs (Text Plain) session before number records text → AreRecordLines session (map (λ placed. placed.shown) records) text
plain_lines session before number [] text are = are
plain_lines session before number (placed ∷ records) text are =
    (are.0, are.1, are.2, plain_lines session (before_behind placed.shown before) (number + 1) records are.1 are.3, are.4)

pub lines_plainly : (session : Session) (before : Before) (number : ℕ) (records : List PlacedRecord) (text : List ℕ)
    → AreRecordLines session (map (λ placed. placed.shown) records) text → AreRecordOutputs (Text Plain) session before number records text
lines_plainly session before number [] text are = are
lines_plainly session before number (placed ∷ records) text are =
    (are.0, are.1, are.2, lines_plainly session (before_behind placed.shown before) (number + 1) records are.1 are.3, are.4)

-- in JSON a line is that of a value
pub record_is_json : (form : OutputForm) (session : Session) (before : Before) (number : ℕ) (placed : PlacedRecord) (line : List ℕ) → IsJson form
    → IsRecordOutput form session before number placed line → IsJsonLine line
record_is_json (Text form) session before number placed line json is = absurd json
record_is_json (Json as2) session before number placed line json is = (is.0, is.2)

pub refusal_is_json : (form : OutputForm) (fault : CaptureFault) → IsJson form → IsJsonLine (refusal_output form fault)
refusal_is_json (Text form) fault json = absurd json
refusal_is_json (Json as2) fault json = (capture_json fault, refl)
