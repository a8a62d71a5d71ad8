-- Lines of verdicts in JSON have no control characters but the line feed at their end.
use Rattle.std.proofs.Common.{◌≡◌, ◌⊎◌, ◌++◌, ℕ, true, List, [], ◌∷◌, All, codes, refl, subst, sym, inl, inr}
use Rattle.std.proofs.lemmas.List.Elements.{All-cons, All-head, All-nil, All-tail}
use Rattle.json.specs.Json.{Json, string}
use Rattle.bgp_prefix.specs.declared.session.Session.{Session}
use Rattle.streams.specs.declared.connection.Opening.{Opening}
use Rattle.bgp_open.specs.declared.families.Families.{Families}
use Rattle.bgp_machine.specs.declared.fsm.Fsm.{Fsm}
use Rattle.bgp_import.specs.ListText.{end_of, other_side}
use Rattle.bgp_why.specs.NotWhole.{unfit_text}
use Rattle.bgp_json_values.specs.Objects.{array_of, number_of}
use Rattle.bgp_json.specs.Object.{json_line}
use Rattle.bgp_json_verdicts.specs.At.{at_members, place_members}
use Rattle.bgp_json_verdicts.specs.Lines.{LineValue, Opens, Answers, Ends, HasRoute, Reasons, RefusesCapture, Refuses, ReasonValue, TheRecord, TheMessage, TheData, IsUnfit, AnotherAs, TheState, LastReceived, Possible, InAnotherOrder, OtherOrdersUnknown, SentAlready, Note, Records, Ignored, OtherSessions, OtherKinds}
use Rattle.bgp_json_verdicts.specs.Objects.{answer_members, counted_with, end_members, family_texts, first_members, line_json, no_counts, objects_from, objects_of, octet_of, of_end, of_verdict, opening_members, reason_members, reason_type, skipped_members}
use Rattle.bgp_json_verdicts.specs.RouteJson.{route_members}
use Rattle.bgp_json_verdicts.specs.Telling.{ArePutInPart, AreValues, lines_of}
use Rattle.bgp_json_verdicts.specs.declared.answer.Answer.{Answer}
use Rattle.bgp_json_verdicts.specs.declared.answer.Answer.TheVariants as answers
use Rattle.bgp_json_verdicts.specs.declared.telling.Counts.{Counts}
use Rattle.bgp_verdict_laws.specs.Laws.{IsReason}
use Rattle.bgp_visible_laws.specs.Visible.{AreVisibleLines, IsVisibleLine}
use Rattle.bgp_visible_laws.proofs.JsonLines.{line_of, refusal_texts, typed_texts}
use Rattle.bgp_visible_laws.proofs.JsonTexts.{AreTexts, HaveTexts, field, of_both, of_number, of_text}
use Rattle.bgp_visible_laws.proofs.JsonValues.{of_address, of_time}
use Rattle.bgp_visible_laws.proofs.Printed.{all_of}
use Rattle.bgp_visible_laws.proofs.Refusals.{recording_texts}
use Rattle.bgp_visible_laws.proofs.Texts.{error_visible}
use Rattle.bgp_visible_laws.proofs.Visible.{is_word, word}
use Rattle.bgp_why_laws.specs.Visible.{IsPutLine, IsVisibleReason, LinesAreVisible, OutputsAreVisible, PrintedIsVisible}
use Rattle.bgp_why_laws.proofs.JsonMembers.{of_at, of_behind, of_families, of_first, of_given, of_place, of_since, unfit_word, with_state}
use Rattle.bgp_why_laws.proofs.JsonRoutes.{of_route}

-- ---- lines of a reason

type_word : (reason : ReasonValue) → is_word (reason_type reason) ≡ true
type_word (TheRecord place local deed) = refl
type_word (TheMessage text) = refl
type_word (TheData text) = refl
type_word (IsUnfit why) = refl
type_word (AnotherAs number) = refl
type_word (TheState state since) = refl
type_word (LastReceived at name asked) = refl
type_word (Possible is_owed is_next is_first item but) = refl
type_word (InAnotherOrder item) = refl
type_word OtherOrdersUnknown = refl
type_word (SentAlready code subcode at) = refl
type_word (Note text) = refl
type_word (Records received sent changes) = refl
type_word (Ignored count) = refl
type_word (OtherSessions count first) = refl
type_word (OtherKinds count) = refl

of_reason : (reason : ReasonValue) → IsReason reason → IsVisibleReason reason → HaveTexts (reason_members reason)
of_reason (TheRecord place local deed) is visible =
    of_both (place_members place) _ (of_place place) (field (codes "address") refl (of_address local) (field (codes "deed") refl (of_given deed visible) tt))
of_reason (TheMessage text) is visible = field (codes "line") refl (of_given text visible) tt
of_reason (TheData text) is visible = field (codes "line") refl (of_given text visible) tt
of_reason (IsUnfit why) is visible = field (codes "text") refl (of_text (word (unfit_text why) (unfit_word why))) tt
of_reason (AnotherAs number) is visible = field (codes "peer_as_not") refl (of_number number) tt
of_reason (TheState state since) is visible = with_state state _ (of_since since)
of_reason (LastReceived at name asked) is visible =
    of_both (at_members at) _ (of_at at)
    (field (codes "message") refl (of_given name visible.0) (of_behind 58 32 (codes "asked") asked refl refl is.2 visible.1))
of_reason (Possible is_owed is_next is_first item but) is visible =
    field (codes "owed") refl tt (field (codes "next") refl tt (field (codes "first") refl tt
    (field (codes "item") refl (of_given item visible.0) (of_behind 59 32 (codes "but") but refl refl is.1 visible.1))))
of_reason (InAnotherOrder item) is visible = field (codes "item") refl (of_given item visible) tt
of_reason OtherOrdersUnknown is visible = tt
of_reason (SentAlready code subcode at) is visible =
    of_both (at_members at) _ (of_at at)
    (field (codes "code") refl (of_number code) (field (codes "subcode") refl (of_number subcode) (field (codes "name") refl (of_text (error_visible code subcode)) tt)))
of_reason (Note text) is visible = field (codes "text") refl (of_given text visible) tt
of_reason (Records received sent changes) is visible =
    field (codes "records") refl (of_number _) (field (codes "received") refl (of_number received) (field (codes "sent") refl (of_number sent)
    (field (codes "changes") refl (of_number changes) tt)))
of_reason (Ignored count) is visible = field (codes "count") refl (of_number count) tt
of_reason (OtherSessions count first) is visible =
    of_both (skipped_members (codes "sessions") count) (first_members first)
    (field (codes "count") refl (of_number count) (field (codes "of") refl (of_text (word (codes "sessions") refl)) tt)) (of_first first)
of_reason (OtherKinds count) is visible =
    field (codes "count") refl (of_number count) (field (codes "of") refl (of_text (word (codes "kinds") refl)) tt)

-- ---- the other lines

of_answer : (answer : Answer) → HaveTexts (answer_members answer)
of_answer answers.Yes = field (codes "answer") refl (of_text (word (codes "yes") refl)) tt
of_answer (answers.NoAt number) = field (codes "answer") refl (of_text (word (codes "no") refl)) (field (codes "record") refl (of_number number) tt)
of_answer (answers.NoAtPacket packet) = field (codes "answer") refl (of_text (word (codes "no") refl)) (field (codes "packet") refl (of_number packet) tt)
of_answer answers.Unfinished = field (codes "answer") refl (of_text (word (codes "unfinished") refl)) tt

of_opening : (session : Session) (opening : Opening) → HaveTexts (opening_members session opening)
of_opening session opening =
    let from = end_of opening.opened_by session opening in
    let to = end_of (other_side opening.opened_by) session opening in
    field (codes "connection") refl (of_number opening.number)
    (field (codes "from") refl (of_address from.address) (field (codes "from_port") refl (of_number from.port)
    (field (codes "to") refl (of_address to.address) (field (codes "to_port") refl (of_number to.port) (of_time opening.second opening.micro)))))

of_end_members : (state : Fsm) (disabled : Families) → HaveTexts (end_members state disabled)
of_end_members state disabled =
    with_state state ((codes "disabled", array_of string (family_texts disabled)) ∷ []) (field (codes "disabled") refl (of_families disabled) tt)

verdict_texts : (kind : List ℕ) → is_word kind ≡ true → (counts : Counts) (ms : List (List ℕ × Json)) → HaveTexts ms → AreTexts (of_verdict kind counts ms)
verdict_texts kind is counts ms each =
    typed_texts kind is ((codes "judged", number_of counts.judged) ∷ ms) (field (codes "judged") refl (of_number counts.judged) each)

end_texts : (kind : List ℕ) → is_word kind ≡ true → (counts : Counts) (ms : List (List ℕ × Json)) → HaveTexts ms → AreTexts (of_end kind counts ms)
end_texts kind is counts ms each =
    verdict_texts kind is counts ((codes "end", number_of counts.end) ∷ ms) (field (codes "end") refl (of_number counts.end) each)

pub line_texts : (counts : Counts) (line : LineValue) → IsPutLine line → AreTexts (line_json counts line)
line_texts counts (Opens session opening) is = typed_texts (codes "connection") refl (opening_members session opening) (of_opening session opening)
line_texts counts (Answers answer) is = verdict_texts (codes "verdict") refl counts (answer_members answer) (of_answer answer)
line_texts counts (Ends state disabled) is = end_texts (codes "end") refl counts (end_members state disabled) (of_end_members state disabled)
line_texts counts (HasRoute destination path) is = end_texts (codes "route") refl counts (route_members destination path) (of_route destination path)
line_texts counts (Reasons reason) is =
    verdict_texts (reason_type reason) (type_word reason) counts (reason_members reason) (of_reason reason is.determined is.visible)
line_texts counts (RefusesCapture fault) is = refusal_texts fault
line_texts counts (Refuses refusal) is = recording_texts refusal (octet_of refusal)

-- ---- laws

pub lines_visible : LinesAreVisible
lines_visible counts line is = line_of (line_json counts line) _ refl (line_texts counts line is)

abbrev IsShown : Json → Type 0
IsShown value = IsVisibleLine (json_line value)

all_visible : (counts : Counts) (lines : List LineValue) → All IsPutLine lines → All IsShown (objects_from counts lines)
all_visible counts [] all = All-nil IsShown
all_visible counts (line ∷ lines) all =
    let next = counted_with counts line in
    All-cons IsShown (line_json next line) (objects_from next lines) (lines_visible next line (All-head IsPutLine line lines all))
    (all_visible next lines (All-tail IsPutLine line lines all))

pub outputs_visible : OutputsAreVisible
outputs_visible lines all = all_of json_line (objects_of lines) (all_visible no_counts lines all)

pub all_front : {X : Type 0} (P : X → Type 0) (xs ys : List X) → All P (xs ++ ys) → All P xs
all_front P [] ys all = All-nil P
all_front P (x ∷ xs) ys all = All-cons P x xs (All-head P x (xs ++ ys) all) (all_front P xs ys (All-tail P x (xs ++ ys) all))

-- lines of objects, or of those before one for which memory was refused
pub either_visible : (objects : List Json) (printed : List ℕ) (code status : ℕ) → All IsShown objects
    → ((printed ≡ lines_of objects) × AreValues objects × (status ≡ code)) ⊎ (ArePutInPart objects printed × (status ≡ 4)) → AreVisibleLines printed
either_visible objects printed code status all (inl whole) = subst AreVisibleLines (sym whole.0) (all_of json_line objects all)
either_visible objects printed code status all (inr part) =
    subst AreVisibleLines (sym part.0.prints)
    (all_of json_line part.0.put (all_front IsShown part.0.put part.0.left (subst (All IsShown) part.0.whole all)))

pub printed_visible : PrintedIsVisible
printed_visible text printed code status told all =
    either_visible (objects_of told.lines) printed code status (all_visible no_counts told.lines all) told.told
