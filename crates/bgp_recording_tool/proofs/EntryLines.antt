-- The lines of entries' records, so far and of those that are left.
use Rattle.std.proofs.Common.{◌+◌, ◌<◌, ◌≤◌, ◌≡◌, ◌∙◌, ℕ, Bool, List, [], ◌++◌, ◌∷◌, drop, take, get_or, length, map, refl, sym, ap, subst, arith, append-nil, append_assoc, Option}
use Rattle.std.proofs.lemmas.List.{take-append-drop, take_all, take_more}
use Rattle.std.specs.List.{AllByRecursion}
use Rattle.bgp_prefix.specs.Shown.{ShownRecord, Received, Sent, Changed}
use Rattle.bgp_prefix.specs.declared.session.Session.{Session}
use Rattle.streams.specs.declared.connection.Connection.{Connection}
use Rattle.bgp_text.specs.Capture.{AreRecordLines, IsRecordLine}
use Rattle.bgp_lines.specs.Form.{Before, IsNamedRecord, IsPlacedLine, PlacedRecord, before_behind, nothing_before}
use Rattle.bgp_lines.specs.declared.form.LineForm.{LineForm}
use Rattle.bgp_lines.specs.declared.form.LineForm.TheVariants.{Plain, Names}
use Rattle.bgp_json.specs.Output.{AreRecordOutputs, IsRecordOutput}
use Rattle.bgp_json.specs.RecordJson as objects
use Rattle.bgp_json.specs.declared.output_form.OutputForm.{OutputForm}
use Rattle.bgp_json.specs.declared.output_form.OutputForm.TheVariants.{Text, Json}
use Rattle.bgp_recording.specs.Captured.{records_of}
use Rattle.bgp_recording.specs.Recorded.{IsRecorded}
use Rattle.bgp_recording.specs.declared.entry.Entry.{Entry}
use Rattle.bgp_recording.specs.declared.framing.Unshown.{Unshown}
use Rattle.bgp_recording.specs.Pieces.{framings_of}
use Rattle.bgp_recording.proofs.Capturing.{made_are_allowed_calmly}
use Rattle.bgp_import.specs.Captures.{shown_by}
use Rattle.bgp_import.proofs.Entries.{from_here}
use Rattle.bgp_recording_tool.specs.Decoding.{AreEntryLines, AreLinesBeforeOne, HasLine, PlainLines, placed_by}
use Rattle.mrt.specs.RefreshLaws.{without_refresh}

-- a line is the same, whether the session may have a ROUTE-REFRESH or not
plain_same : (session : Session) (shown : ShownRecord) (line : List ℕ) → IsRecordLine (without_refresh session) shown line → IsRecordLine session shown line
plain_same session (Received second octets) line is = is
plain_same session (Sent second octets) line is = is
plain_same session (Changed second old new) line is = is

named_same : (session : Session) (before : Before) (as2 : Bool) (packet : Option ℕ) (shown : ShownRecord) (text : List ℕ)
    → IsNamedRecord (without_refresh session) before as2 packet shown text → IsNamedRecord session before as2 packet shown text
named_same session before as2 packet (Received second octets) text is = is
named_same session before as2 packet (Sent second octets) text is = is
named_same session before as2 packet (Changed second old new) text is = is

text_same : (form : LineForm) (session : Session) (before : Before) (placed : PlacedRecord) (line : List ℕ)
    → IsPlacedLine form (without_refresh session) before placed line → IsPlacedLine form session before placed line
text_same Plain session before placed line is = plain_same session placed.shown line is
text_same (Names as2) session before placed line is =
    (is.0, named_same session before as2 placed.packet placed.shown is.0 is.1, is.2)

shown_same : (session : Session) (before : Before) (as2 : Bool) (number : ℕ) (placed : PlacedRecord) (shown : ShownRecord) (line : List ℕ)
    → objects.IsPlacedLine (without_refresh session) before as2 number (record { packet = placed.packet; shown = shown }) line
    → objects.IsPlacedLine session before as2 number (record { packet = placed.packet; shown = shown }) line
shown_same session before as2 number placed (Received second octets) line is = is
shown_same session before as2 number placed (Sent second octets) line is = is
shown_same session before as2 number placed (Changed second old new) line is = is

line_same : (form : OutputForm) (session : Session) (before : Before) (number : ℕ) (placed : PlacedRecord) (line : List ℕ)
    → IsRecordOutput form (without_refresh session) before number placed line → IsRecordOutput form session before number placed line
line_same (Text form) session before number placed line is = text_same form session before placed line is
line_same (Json as2) session before number placed line is = shown_same session before as2 number placed placed.shown line is

-- and by a form and a number that are the same
pub line_in : (form own : OutputForm) (session : Session) (before : Before) (index number : ℕ) (placed : PlacedRecord) (line : List ℕ) → own ≡ form
    → number ≡ index → IsRecordOutput own (without_refresh session) before (number + 1) placed line
    → IsRecordOutput form session before (index + 1) placed line
line_in form own session before index number placed line same counted is =
    line_same form session before (index + 1) placed line
    (subst (λ (f : OutputForm). IsRecordOutput f (without_refresh session) before (index + 1) placed line) same
    (subst (λ (n : ℕ). IsRecordOutput own (without_refresh session) before (n + 1) placed line) counted is))

-- The lines so far are those of these entries, and whatever lines some that come behind have follow
-- them.
abbrev pub AreFollowed : OutputForm → Session → List Entry → Before → ℕ → List ℕ → Type 0
AreFollowed form session entries before number text =
    (left : List Entry) (rest : List ℕ) → AreRecordOutputs form session before number (map placed_by left) rest
    → AreEntryLines form session (entries ++ left) (text ++ rest)

pub one_line_more : (form : OutputForm) (session : Session) (entries : List Entry) (before : Before) (i : ℕ) (d : Entry) → i < length entries → (text line : List ℕ)
    → IsRecordOutput form session before (i + 1) (placed_by (get_or entries i d)) line → AreFollowed form session (take i entries) before (i + 1) text
    → AreFollowed form session (take (i + 1) entries) (before_behind (shown_by (get_or entries i d)) before) (i + 1 + 1) (text ++ line)
one_line_more form session entries before i d within text line is so_far left rest are =
    let here : Entry = get_or entries i d in
    subst (λ (es : List Entry). AreEntryLines form session (es ++ left) ((text ++ line) ++ rest)) (sym (take_more entries i d within))
    (subst (λ (es : List Entry). AreEntryLines form session es ((text ++ line) ++ rest)) (sym (append_assoc (take i entries) (here ∷ []) left))
    (subst (λ (t : List ℕ). AreEntryLines form session (take i entries ++ here ∷ left) t) (sym (append_assoc text line rest))
    (so_far (here ∷ left) (line ++ rest) (line, rest, is, are, refl))))

-- the lines of the entries so far
pub so_far_lines : (form : OutputForm) (session : Session) (entries : List Entry) (before : Before) (number : ℕ) (text : List ℕ)
    → AreFollowed form session entries before number text → AreEntryLines form session entries text
so_far_lines form session entries before number text so_far =
    subst (λ (t : List ℕ). AreEntryLines form session entries t) (append-nil text)
    (subst (λ (es : List Entry). AreEntryLines form session es (text ++ [])) (append-nil entries) (so_far [] [] refl))

pub no_line_left : (form : OutputForm) (session : Session) (entries : List Entry) (before : Before) (i : ℕ) → length entries ≤ i → (text : List ℕ)
    → AreFollowed form session (take i entries) before (i + 1) text → AreEntryLines form session entries text
no_line_left form session entries before i past text so_far =
    subst (λ (es : List Entry). AreEntryLines form session es text) (take_all i entries past)
    (so_far_lines form session (take i entries) before (i + 1) text so_far)

-- there is one
some_entry : (entries : List Entry) (i : ℕ) → i < length entries → Entry
some_entry [] i within = absurd (omega (arith, within))
some_entry (entry ∷ entries) i within = entry

-- where the line of one isn't put
pub lines_before_one : (form : OutputForm) (session : Session) (entries : List Entry) (before : Before) (i : ℕ) → i < length entries → (text : List ℕ)
    → AreFollowed form session (take i entries) before (i + 1) text → AreLinesBeforeOne form session entries text
lines_before_one form session entries before i within text so_far = let d = some_entry entries i within in record {
  before = take i entries;
  one = get_or entries i d;
  behind = drop (i + 1) entries;
  split = sym (take-append-drop i entries) ∙ ap (λ (es : List Entry). take i entries ++ es) (from_here entries i d within);
  are_lines = so_far_lines form session (take i entries) before (i + 1) text so_far;
}

-- made records have lines
pub have_lines : (session : Session) (within : ℕ) (connection : Connection) (entries : List Entry) (received_unshown sent_unshown : Unshown)
    → IsRecorded (framings_of session) within connection entries received_unshown sent_unshown → AllByRecursion (HasLine session) entries
have_lines session within connection entries received_unshown sent_unshown recorded = made_are_allowed_calmly session within connection entries received_unshown sent_unshown recorded

-- in the plain form the lines are those of the records by themselves, whatever came before
plainly : (session : Session) (before : Before) (number : ℕ) (entries : List Entry) (text : List ℕ)
    → AreRecordOutputs (Text Plain) session before number (map placed_by entries) text → AreRecordLines session (records_of entries) text
plainly session before number [] text are = are
plainly session before number (entry ∷ entries) text are =
    (are.0, are.1, are.2, plainly session (before_behind (shown_by entry) before) (number + 1) entries are.1 are.3, are.4)

by_themselves : (session : Session) (before : Before) (number : ℕ) (entries : List Entry) (text : List ℕ)
    → AreRecordLines session (records_of entries) text → AreRecordOutputs (Text Plain) session before number (map placed_by entries) text
by_themselves session before number [] text are = are
by_themselves session before number (entry ∷ entries) text are =
    (are.0, are.1, are.2, by_themselves session (before_behind (shown_by entry) before) (number + 1) entries are.1 are.3, are.4)

pub plain_lines : PlainLines
plain_lines session entries text = (plainly session nothing_before 1 entries text, by_themselves session nothing_before 1 entries text)
