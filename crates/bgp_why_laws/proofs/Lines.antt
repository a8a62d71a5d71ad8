-- The lines of a verdict and its reason are such whose objects determine their texts, and whose texts
-- are visible.
use Rattle.std.proofs.Common.{◌≡◌, ◌<◌, ℕ, Bool, false, List, [], ◌∷◌, Option, None, Some, All, IsUtf8, arith, codes, map, refl, subst, inl, inr}
use Rattle.std.proofs.lemmas.List.Elements.{All-cons, All-head, All-nil, All-tail, All-weaker}
use Rattle.std.proofs.lemmas.Str.{IsCharBoundary-after_ascii, IsUtf8-drop}
use Rattle.bgp_path.specs.AsPath.{IsPathSegment, PathSegment}
use Rattle.bgp_path.specs.Fit.{IsFit}
use Rattle.bgp_path.specs.Path.{PathValue}
use Rattle.bgp_wire.specs.Octets.{AreOctets}
use Rattle.bgp_update.specs.declared.destination.Destination.{Destination}
use Rattle.bgp_values.specs.ErrorData.{ErrorFields, DataValue, cause_of, data_value}
use Rattle.bgp_lines.specs.Notifications.{bracketed_codes_text, caused_data_text, error_data_text, plain_data_text}
use Rattle.bgp_why_parts.specs.declared.own_faults.OwnFaults.{OwnFaults}
use Rattle.bgp_why.specs.Applying.{update_asks}
use Rattle.bgp_why.specs.Asked.{asked_text}
use Rattle.bgp_why.specs.Items.{item_text}
use Rattle.bgp_why.specs.Lacks.{but_text}
use Rattle.bgp_why.specs.NoteLines.{note_text}
use Rattle.bgp_why.specs.declared.items.Item.{Item}
use Rattle.bgp_why.specs.declared.lacks.Lacks.{Lacks}
use Rattle.bgp_json_verdicts.specs.Lines.{Ends, HasRoute, InAnotherOrder, Note as NoteLine, Possible, Reasons, item_values, note_values, other_item_values, route_value}
use Rattle.bgp_verdict_laws.specs.Laws.{IsFilled, IsMarkedIfAny}
use Rattle.bgp_verdict_laws.specs.Marks.{IsBehindIfAny}
use Rattle.bgp_verdict_laws.proofs.Marks.{asks_marked, lack_is_marked, update_asks_marked}
use Rattle.bgp_visible_laws.specs.Visible.{IsVisible}
use Rattle.bgp_visible_laws.proofs.Lines.{told_visible}
use Rattle.bgp_visible_laws.proofs.Messages.{SaidBy, cause_are, data_said, data_visible, detail_visible}
use Rattle.bgp_visible_laws.proofs.Texts.{decimal_visible, encoded_visible, error_visible}
use Rattle.bgp_visible_laws.proofs.Visible.{both, word}
use Rattle.bgp_why_laws.specs.Lines.{DataAreLines, EndsAreLines, ItemsAreLines, MessagesAreLines, NotesAreLines, OthersAreLines, ReceivedAreLines, RecordsAreLines, UpdatesAreLines}
use Rattle.bgp_why_laws.specs.Octets.{AreLacks, IsItem}
use Rattle.bgp_why_laws.specs.Texts.{CutsAreVisible, DataAreVisible}
use Rattle.bgp_why_laws.specs.Visible.{IsPutLine}
use Rattle.bgp_why_laws.proofs.Cut.{cut_visible}
use Rattle.bgp_why_laws.proofs.Reasons.{asks_visible, buts_visible, causes_visible, deeds_visible, items_visible, names_visible, notes_visible, update_asks_visible}

-- ---- what stands behind a mark

-- two octets of ASCII, and what is behind them
behind_two : (a b : ℕ) (said : List ℕ) → b < 128 → IsUtf8 (a ∷ b ∷ said) → IsUtf8 said
behind_two a b said small is =
    IsUtf8-drop (a ∷ b ∷ said) 2 is (IsCharBoundary-after_ascii (a ∷ b ∷ said) 1 is (omega arith) small)

colon_marked : (text : List ℕ) → IsVisible text → IsBehindIfAny (codes ": ") text → IsMarkedIfAny (codes ": ") text
colon_marked text visible (inl none) = inl none
colon_marked text visible (inr b) = inr record {
  said = b.said;
  is_its = b.is_its;
  some = b.some;
  utf8 = behind_two 58 32 b.said (omega arith) (subst IsUtf8 b.is_its visible.utf8);
}

semicolon_marked : (text : List ℕ) → IsVisible text → IsBehindIfAny (codes "; ") text → IsMarkedIfAny (codes "; ") text
semicolon_marked text visible (inl none) = inl none
semicolon_marked text visible (inr b) = inr record {
  said = b.said;
  is_its = b.is_its;
  some = b.some;
  utf8 = behind_two 59 32 b.said (omega arith) (subst IsUtf8 b.is_its visible.utf8);
}

-- ---- a record, its message and its data

pub records : {X : Type 0} (lacks : Lacks X) → RecordsAreLines lacks
records lacks session peer form shown place local deed faults p at done is are =
    let visible = both (deeds_visible session peer form shown deed done) (causes_visible lacks faults p is are) in
    record { determined = (at, visible.utf8); visible = visible }

pub cuts_visible : CutsAreVisible
cuts_visible reading limit octets text are is = cut_visible text (told_visible reading limit octets text are is)

pub messages : MessagesAreLines
messages reading limit octets text are is =
    let visible = cuts_visible reading limit octets text are is in
    record { determined = visible.utf8; visible = visible }

bracketed : (e : ErrorFields) → IsVisible (bracketed_codes_text e)
unfolding bracketed_codes_text
bracketed e =
    both (decimal_visible e.code) (both (word (codes "/") refl) (both (decimal_visible e.subcode) (both (word (codes " (") refl) (both (error_visible e.code e.subcode) (word (codes ")") refl)))))

plain_data : (found : Option DataValue) (detail : List ℕ) → AreOctets detail → SaidBy found → IsVisible (plain_data_text found detail)
unfolding plain_data_text
plain_data None detail are said = encoded_visible detail are
plain_data (Some value) detail are said = data_visible value (said value refl)

caused_data : (e : ErrorFields) → AreOctets e.detail → (cause : Option ErrorFields) → ((c : ErrorFields) → cause ≡ Some c → AreOctets c.detail) → IsVisible (caused_data_text e cause)
unfolding caused_data_text
caused_data e are None each = plain_data (data_value e) e.detail are (data_said e)
caused_data e are (Some cause) each = both (bracketed cause) (detail_visible (data_value cause) cause.detail (each cause refl) (data_said cause))

pub data_visible_all : DataAreVisible
unfolding error_data_text
data_visible_all e are =
    cut_visible (caused_data_text e (cause_of e)) (caused_data e are (cause_of e) (λ cause found. cause_are _ e.detail cause are found))

pub data_lines : DataAreLines
data_lines e are =
    let visible = data_visible_all e are in
    record { determined = visible.utf8; visible = visible }

-- ---- the message that was received last

pub received : ReceivedAreLines
received first place name is_free state message at =
    let named = names_visible name in
    let asks = asks_visible is_free state message in
    record { determined = (at, named.utf8, colon_marked (asked_text is_free state message) asks (asks_marked is_free state message)); visible = (named, asks) }

pub updates : UpdatesAreLines
updates first place name applied refused parts at has outcome =
    let named = names_visible name in
    let asks = update_asks_visible applied refused parts has in
    record { determined = (at, named.utf8, colon_marked (update_asks applied refused parts) asks (inr (update_asks_marked applied refused parts outcome))); visible = (named, asks) }

-- ---- items and notes

one_item : {X : Type 0} (lacks : Lacks X) (is_owed is_next is_first : Bool) (first : ℕ) (faults : Option OwnFaults) (item : Item) → IsItem item → AreLacks lacks
    → IsPutLine (Reasons (Possible is_owed is_next is_first (item_text first item) (but_text faults lacks item)))
one_item lacks is_owed is_next is_first first faults item is are =
    let may_come = items_visible first item is in
    let but = buts_visible lacks faults item are in
    record { determined = (may_come.utf8, semicolon_marked (but_text faults lacks item) but (lack_is_marked lacks faults item)); visible = (may_come, but) }

pub items : {X : Type 0} (lacks : Lacks X) → ItemsAreLines lacks
items lacks is_owed is_next is_first first faults [] all are = All-nil IsPutLine
items lacks is_owed is_next is_first first faults (item ∷ list) all are =
    All-cons IsPutLine (Reasons (Possible is_owed is_next is_first (item_text first item) (but_text faults lacks item))) (item_values is_owed is_next false first (but_text faults lacks) list)
    (one_item lacks is_owed is_next is_first first faults item (All-head IsItem item list all) are)
    (items lacks is_owed is_next false first faults list (All-tail IsItem item list all) are)

pub others : OthersAreLines
others first [] all = All-nil IsPutLine
others first (item ∷ list) all =
    let visible = items_visible first item (All-head IsItem item list all) in
    All-cons IsPutLine (Reasons (InAnotherOrder (item_text first item))) (other_item_values first list) record { determined = visible.utf8; visible = visible }
    (others first list (All-tail IsItem item list all))

pub notes : NotesAreLines
notes [] = All-nil IsPutLine
notes (None ∷ list) = notes list
notes (Some note ∷ list) =
    let visible = notes_visible note in
    All-cons IsPutLine (Reasons (NoteLine (note_text note))) (note_values list) record { determined = visible.utf8; visible = visible } (notes list)

-- ---- ends

filled : (segment : PathSegment) → IsPathSegment segment → IsFilled segment
filled segment is = is.some

abbrev IsRoute : Destination × PathValue → Type 0
IsRoute route = IsFit route.1

routes : (list : List (Destination × PathValue)) → All IsRoute list → All IsPutLine (map route_value list)
routes [] all = All-nil IsPutLine
routes (route ∷ list) all =
    let full = All-weaker IsPathSegment IsFilled filled route.1.as_path (All-head IsRoute route list all).segments in
    All-cons IsPutLine (HasRoute route.0 route.1) (map route_value list) record { determined = full; visible = tt } (routes list (All-tail IsRoute route list all))

pub ends : EndsAreLines
ends e all = All-cons IsPutLine (Ends e.fsm e.routes.disabled) (map route_value e.routes.entries) record { determined = tt; visible = tt } (routes e.routes.entries all)
