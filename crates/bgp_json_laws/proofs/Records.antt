-- Records whose objects are equal are equal; and so are those with one line, and lists of them with
-- one text.
use Rattle.std.proofs.Common.{◌≡◌, ◌⊎◌, ◌∙◌, ◌++◌, ◌+◌, ◌<◌, ◌^◌, ℕ, Bool, true, false, List, [], ◌∷◌, All, Option, None, Some, append-nil, append_assoc, bytes_eq, codes, length, refl, sym, ap, ap₂, subst, arith, inl, inr}
use Rattle.std.proofs.lemmas.Bool.{both_ways}
use Rattle.std.proofs.lemmas.List.{length-append}
use Rattle.std.proofs.lemmas.List.Elements.{All-head, All-tail}
use Rattle.json.specs.Json.{Json, string}
use Rattle.json.specs.Print.{print}
use Rattle.json.specs.Tree.{json_tokens}
use Rattle.bgp_prefix.specs.Shown.{ShownRecord, Received as In, Sent as Out, Changed}
use Rattle.bgp_prefix.specs.declared.session.Session.{Session}
use Rattle.bgp_wire.specs.Header.{header_of, limit_with}
use Rattle.bgp_wire.specs.Octets.{AreOctets}
use Rattle.bgp_wire.specs.declared.header.Limit.{Limit}
use Rattle.bgp_text.specs.Message.{Message, open_message, malformed_open_message, update_message, malformed_update_message, notification_message, keepalive_message}
use Rattle.bgp_names.specs.States.{state_name}
use Rattle.bgp_names.proofs.OneName.{one_name}
use Rattle.bgp_names.specs.States.{state_names}
use Rattle.bgp_values.specs.declared.opens.Direction.{Direction}
use Rattle.bgp_values.specs.declared.opens.Direction.TheVariants.{Received, Sent}
use Rattle.bgp_values.specs.declared.opens.Reading.{Reading}
use Rattle.bgp_lines.specs.Form.{Before, PlacedRecord, before_behind}
use Rattle.bgp_json_values.specs.Objects.{number_of}
use Rattle.bgp_json.specs.Object.{json_line, typed}
use Rattle.bgp_json.specs.Others.{change_json, change_members, header_members}
use Rattle.bgp_json.specs.Place.{direction_json, direction_text, packet_members, place_members, record_members}
use Rattle.bgp_json.specs.RecordJson.{ArePlacedLines, IsMessageJson, IsPlacedLine, IsShownJson, place_at}
use Rattle.bgp_json.specs.declared.place.Place.{Place}
use Rattle.bgp_json.specs.declared.place.Place.TheVariants.{InRecord}
use Rattle.bgp_json.specs.declared.place.RecordPlace.{RecordPlace}
use Rattle.bgp_json.proofs.Shallow.{change_shallow}
use Rattle.bgp_json_laws.specs.Lines.{IsPacket, IsPlacedRecord, IsShown, shown_in}
use Rattle.bgp_json_laws.proofs.Decimals.{of_both, of_object}
use Rattle.bgp_json_laws.proofs.Lookups.{at_object, of_key, text_of, value_at}
use Rattle.bgp_json_laws.proofs.Messages.{in_parts, kind_of, members_of}
use Rattle.bgp_json_laws.proofs.Objects.{object_printed, record_decimals, same_object}
use Rattle.bgp_json_laws.proofs.Places.{differ}
use Rattle.bgp_json_laws.proofs.Printing.{IsPrinted, same_first_line}
use Rattle.bgp_json_laws.proofs.Texts.{same_number_json}

-- ---- the parts of an object

-- what it tells of, and what stands behind its place
record Shape (place : Place) (value : Json) : Type 0 where
  kind : List ℕ
  members : List (List ℕ × Json)
  is_typed : value ≡ typed kind (place_members place ++ members)
  apart : bytes_eq (codes "change") kind ≡ false
  accepted : bytes_eq (codes "refused") kind ≡ false

no_change : (message : Message) → bytes_eq (codes "change") (kind_of message) ≡ false
no_change (open_message fields) = refl
no_change (malformed_open_message fault) = refl
no_change (update_message parts) = refl
no_change malformed_update_message = refl
no_change (notification_message code subcode detail) = refl
no_change keepalive_message = refl

no_refusal : (message : Message) → bytes_eq (codes "refused") (kind_of message) ≡ false
no_refusal (open_message fields) = refl
no_refusal (malformed_open_message fault) = refl
no_refusal (update_message parts) = refl
no_refusal malformed_update_message = refl
no_refusal (notification_message code subcode detail) = refl
no_refusal keepalive_message = refl

shape : (reading : Reading) (limit : Limit) (place : Place) (octets : List ℕ) (value : Json) → IsMessageJson reading limit place octets value → Shape place value
shape reading limit place octets value h = elim h [
  | inl a ↦ record { kind = kind_of a.1.0; members = members_of reading octets a.1.0; is_typed = a.1.2 ∙ in_parts reading place octets a.1.0; apart = no_change a.1.0; accepted = no_refusal a.1.0 }
  | inr a ↦ record { kind = codes "fault"; members = header_members a.1.0 (header_of octets) octets; is_typed = a.1.2; apart = refl; accepted = refl }
]

direction_behind : (packet : Option ℕ) (direction : Json) (ms : List (List ℕ × Json))
    → of_key (codes "direction") ((packet_members packet ++ (codes "direction", direction) ∷ []) ++ ms) ≡ direction
direction_behind None direction ms = refl
direction_behind (Some packet) direction ms = refl

direction_in : (place : RecordPlace) (direction : Direction) (value : Json) → Shape (InRecord place direction) value → value_at (codes "direction") value ≡ direction_json direction
direction_in place direction value s =
    ap (value_at (codes "direction")) s.is_typed
    ∙ at_object (codes "direction") ((codes "type", string s.kind) ∷ (place_members (InRecord place direction) ++ s.members))
    ∙ direction_behind place.packet (direction_json direction) s.members

second_in : (place : RecordPlace) (direction : Direction) (value : Json) → Shape (InRecord place direction) value → value_at (codes "second") value ≡ number_of place.second
second_in place direction value s = ap (value_at (codes "second")) s.is_typed

kind_in : (place : RecordPlace) (direction : Direction) (value : Json) (s : Shape (InRecord place direction) value) → text_of (value_at (codes "type") value) ≡ s.kind
kind_in place direction value s = ap (λ (j : Json). text_of (value_at (codes "type") j)) s.is_typed

-- ---- equal objects

one_state : (m n : ℕ) → m < 2 ^ 64 → n < 2 ^ 64 → state_name m ≡ state_name n → m ≡ n
one_state m n small also e = one_name (codes "state ") state_names refl m n small also e

one_way : (direction other : Direction) → direction_json direction ≡ direction_json other → direction ≡ other
one_way Received Received e = refl
one_way Received Sent e = absurd (differ (codes "received") (codes "sent") refl refl (ap text_of e))
one_way Sent Received e = absurd (differ (codes "sent") (codes "received") refl refl (ap text_of e))
one_way Sent Sent e = refl

-- messages, whichever way they went
same_messages : (reading other : Reading) (limit also : Limit) (place elsewhere : RecordPlace) (direction way : Direction) (octets others : List ℕ) (value : Json)
    → place.second < 2 ^ 64 → elsewhere.second < 2 ^ 64 → AreOctets octets → AreOctets others
    → IsMessageJson reading limit (InRecord place direction) octets value → IsMessageJson other also (InRecord elsewhere way) others value
    → (direction ≡ way) × (place.second ≡ elsewhere.second) × (octets ≡ others)
same_messages reading other limit also place elsewhere direction way octets others value small fits are too h k =
    let s = shape reading limit (InRecord place direction) octets value h in
    let t = shape other also (InRecord elsewhere way) others value k in (
      one_way direction way (sym (direction_in place direction value s) ∙ direction_in elsewhere way value t),
      same_number_json place.second elsewhere.second small fits (sym (second_in place direction value s) ∙ second_in elsewhere way value t),
      same_object reading other limit also (InRecord place direction) (InRecord elsewhere way) octets others value are too h k,
    )

-- a message is no change of state
message_or_change : (reading : Reading) (limit : Limit) (place elsewhere : RecordPlace) (direction : Direction) (octets : List ℕ) (old new : ℕ) (value : Json)
    → IsMessageJson reading limit (InRecord place direction) octets value → value ≡ change_json elsewhere old new → ⊥
message_or_change reading limit place elsewhere direction octets old new value h e =
    let s = shape reading limit (InRecord place direction) octets value h in
    let kind : codes "change" ≡ s.kind = sym (ap (λ (j : Json). text_of (value_at (codes "type") j)) e) ∙ kind_in place direction value s in
    both_ways (bytes_eq (codes "change") s.kind) s.apart (subst (λ (k : List ℕ). bytes_eq (codes "change") k ≡ true) kind refl)

states_behind : (packet : Option ℕ) (old new : Json)
    → (of_key (codes "old") (packet_members packet ++ (codes "old", old) ∷ (codes "new", new) ∷ []) ≡ old) × (of_key (codes "new") (packet_members packet ++ (codes "old", old) ∷ (codes "new", new) ∷ []) ≡ new)
states_behind None old new = (refl, refl)
states_behind (Some packet) old new = (refl, refl)

same_change : (place elsewhere : RecordPlace) (old new state next : ℕ) → place.second < 2 ^ 64 → elsewhere.second < 2 ^ 64 → old < 2 ^ 64 → new < 2 ^ 64 → state < 2 ^ 64 → next < 2 ^ 64
    → change_json place old new ≡ change_json elsewhere state next → (place.second ≡ elsewhere.second) × (old ≡ state) × (new ≡ next)
same_change place elsewhere old new state next small fits so sn ss st e =
    let first = states_behind place.packet (string (state_name old)) (string (state_name new)) in
    let second = states_behind elsewhere.packet (string (state_name state)) (string (state_name next)) in
    let ms = (codes "type", string (codes "change")) ∷ (record_members place ++ change_members old new) in
    let ns = (codes "type", string (codes "change")) ∷ (record_members elsewhere ++ change_members state next) in (
      same_number_json place.second elsewhere.second small fits (ap (value_at (codes "second")) e),
      one_state old state so ss (ap text_of (sym (at_object (codes "old") ms ∙ first.0) ∙ ap (value_at (codes "old")) e ∙ (at_object (codes "old") ns ∙ second.0))),
      one_state new next sn st (ap text_of (sym (at_object (codes "new") ms ∙ first.1) ∙ ap (value_at (codes "new")) e ∙ (at_object (codes "new") ns ∙ second.1))),
    )

pub same_shown : (session another : Session) (before earlier : Before) (as2 also : Bool) (number place : ℕ) (packet other : Option ℕ) (shown told : ShownRecord) (value : Json)
    → IsShown shown → IsShown told → IsShownJson session before as2 number packet shown value → IsShownJson another earlier also place other told value → shown ≡ told
same_shown session another before earlier as2 also number place packet other (In second octets) (In s others) value is too h k =
    let same = same_messages h.0 k.0 (limit_with session.extended) (limit_with another.extended) (place_at number second packet) (place_at place s other) Received Received octets others value
    is.0 too.0 is.1 too.1 h.2 k.2 in
    ap₂ In same.1 same.2
same_shown session another before earlier as2 also number place packet other (Out second octets) (Out s others) value is too h k =
    let same = same_messages h.0 k.0 (limit_with session.extended) (limit_with another.extended) (place_at number second packet) (place_at place s other) Sent Sent octets others value
    is.0 too.0 is.1 too.1 h.2 k.2 in
    ap₂ Out same.1 same.2
same_shown session another before earlier as2 also number place packet other (In second octets) (Out s others) value is too h k =
    let same = same_messages h.0 k.0 (limit_with session.extended) (limit_with another.extended) (place_at number second packet) (place_at place s other) Received Sent octets others value
    is.0 too.0 is.1 too.1 h.2 k.2 in
    absurd (differ (codes "received") (codes "sent") refl refl (ap direction_text same.0))
same_shown session another before earlier as2 also number place packet other (Out second octets) (In s others) value is too h k =
    let same = same_messages h.0 k.0 (limit_with session.extended) (limit_with another.extended) (place_at number second packet) (place_at place s other) Sent Received octets others value
    is.0 too.0 is.1 too.1 h.2 k.2 in
    absurd (differ (codes "sent") (codes "received") refl refl (ap direction_text same.0))
same_shown session another before earlier as2 also number place packet other (In second octets) (Changed s old new) value is too h k =
    absurd (message_or_change h.0 (limit_with session.extended) (place_at number second packet) (place_at place s other) Received octets old new value h.2 k)
same_shown session another before earlier as2 also number place packet other (Out second octets) (Changed s old new) value is too h k =
    absurd (message_or_change h.0 (limit_with session.extended) (place_at number second packet) (place_at place s other) Sent octets old new value h.2 k)
same_shown session another before earlier as2 also number place packet other (Changed second old new) (In s others) value is too h k =
    absurd (message_or_change k.0 (limit_with another.extended) (place_at place s other) (place_at number second packet) Received others old new value k.2 h)
same_shown session another before earlier as2 also number place packet other (Changed second old new) (Out s others) value is too h k =
    absurd (message_or_change k.0 (limit_with another.extended) (place_at place s other) (place_at number second packet) Sent others old new value k.2 h)
same_shown session another before earlier as2 also number place packet other (Changed second old new) (Changed s state next) value is too h k =
    let same = same_change (place_at number second packet) (place_at place s other) old new state next is.0 too.0 is.1 is.2 too.1 too.2 (sym h ∙ k) in
    λ i. Changed (same.0 i) (same.1 i) (same.2 i)

-- ---- lines

change_printed : (place : RecordPlace) (old new : ℕ) → place.number < 2 ^ 64 → place.second < 2 ^ 64 → IsPacket place.packet → IsPrinted (change_json place old new)
change_printed place old new number second packet = record {
  decimals = (tt, of_object (record_members place ++ change_members old new) (of_both (record_members place) (change_members old new) (record_decimals place number second packet) (tt, (tt, tt))));
  shallow = change_shallow place old new;
}

shown_printed : (session : Session) (before : Before) (as2 : Bool) (number : ℕ) (packet : Option ℕ) (shown : ShownRecord) (value : Json) → number < 2 ^ 64 → IsPacket packet → IsShown shown
    → IsShownJson session before as2 number packet shown value → IsPrinted value
shown_printed session before as2 number packet (In second octets) value small fits is h =
    object_printed h.0 (limit_with session.extended) (InRecord (place_at number second packet) Received) octets value (small, is.0, fits) is.1 h.2
shown_printed session before as2 number packet (Out second octets) value small fits is h =
    object_printed h.0 (limit_with session.extended) (InRecord (place_at number second packet) Sent) octets value (small, is.0, fits) is.1 h.2
shown_printed session before as2 number packet (Changed second old new) value small fits is h =
    subst IsPrinted (sym h) (change_printed (place_at number second packet) old new small is.0 fits)

-- two lines in front of anything
first_record : (session another : Session) (before earlier : Before) (as2 also : Bool) (number place : ℕ) (placed other : PlacedRecord) (line next rest others : List ℕ)
    → number < 2 ^ 64 → place < 2 ^ 64 → IsPlacedRecord placed → IsPlacedRecord other
    → IsPlacedLine session before as2 number placed line → IsPlacedLine another earlier also place other next → line ++ rest ≡ next ++ others
    → (placed.shown ≡ other.shown) × (rest ≡ others)
first_record session another before earlier as2 also number place placed other line next rest others small fits is too h k e =
    let v = shown_printed session before as2 number placed.packet placed.shown h.0 small is.packet is.shown h.1 in
    let w = shown_printed another earlier also place other.packet other.shown k.0 fits too.packet too.shown k.1 in
    let lines : json_line h.0 ++ rest ≡ json_line k.0 ++ others = sym (ap (λ (l : List ℕ). l ++ rest) h.2) ∙ e ∙ ap (λ (l : List ℕ). l ++ others) k.2 in
    let same = same_first_line h.0 k.0 rest others v w lines in (
      same_shown session another before earlier as2 also number place placed.packet other.packet placed.shown other.shown h.0 is.shown too.shown h.1
          (subst (λ (j : Json). IsShownJson another earlier also place other.packet other.shown j) (sym same.0) k.1),
      same.1,
    )

pub same_record_line : (session another : Session) (before earlier : Before) (as2 also : Bool) (number place : ℕ) (placed other : PlacedRecord) (line : List ℕ)
    → number < 2 ^ 64 → place < 2 ^ 64 → IsPlacedRecord placed → IsPlacedRecord other
    → IsPlacedLine session before as2 number placed line → IsPlacedLine another earlier also place other line → placed.shown ≡ other.shown
same_record_line session another before earlier as2 also number place placed other line small fits is too h k =
    (first_record session another before earlier as2 also number place placed other line line [] [] small fits is too h k refl).0

-- no line is empty
pub some_line : (v : Json) (rest : List ℕ) → json_line v ++ rest ≡ [] → ⊥
unfolding json_line
some_line v rest e =
    let none = ap length e in
    omega (arith, none, length-append (print (json_tokens v) ++ codes "\n") rest, length-append (print (json_tokens v)) (codes "\n"))

-- ---- and what is refused behind them

abbrev pub type_in : Json → List ℕ
type_in j = text_of (value_at (codes "type") j)

-- nothing, or the line of a refusal
abbrev pub IsEnd : List ℕ → Type 0
IsEnd last = (last ≡ []) ⊎ ((value : Json) × IsPrinted value × (type_in value ≡ codes "refused") × (last ≡ json_line value))

message_accepted : (reading : Reading) (limit : Limit) (place : RecordPlace) (direction : Direction) (octets : List ℕ) (value : Json)
    → IsMessageJson reading limit (InRecord place direction) octets value → type_in value ≡ codes "refused" → ⊥
message_accepted reading limit place direction octets value h e =
    let s = shape reading limit (InRecord place direction) octets value h in
    let kind : codes "refused" ≡ s.kind = sym e ∙ kind_in place direction value s in
    both_ways (bytes_eq (codes "refused") s.kind) s.accepted (subst (λ (k : List ℕ). bytes_eq (codes "refused") k ≡ true) kind refl)

shown_accepted : (session : Session) (before : Before) (as2 : Bool) (number : ℕ) (packet : Option ℕ) (shown : ShownRecord) (value : Json)
    → IsShownJson session before as2 number packet shown value → type_in value ≡ codes "refused" → ⊥
shown_accepted session before as2 number packet (In second octets) value h e = message_accepted h.0 (limit_with session.extended) (place_at number second packet) Received octets value h.2 e
shown_accepted session before as2 number packet (Out second octets) value h e = message_accepted h.0 (limit_with session.extended) (place_at number second packet) Sent octets value h.2 e
shown_accepted session before as2 number packet (Changed second old new) value h e =
    differ (codes "change") (codes "refused") refl refl (sym (ap (λ (j : Json). text_of (value_at (codes "type") j)) h) ∙ e)

-- the line of a record isn't the end
end_or_record : (session : Session) (before : Before) (as2 : Bool) (number : ℕ) (placed : PlacedRecord) (last line more : List ℕ) → number < 2 ^ 64 → IsPlacedRecord placed
    → IsEnd last → IsPlacedLine session before as2 number placed line → last ≡ line ++ more → ⊥
end_or_record session before as2 number placed last line more small is end h e = elim end [
  | inl none ↦ some_line h.0 more (sym (ap (λ (l : List ℕ). l ++ more) h.2) ∙ sym e ∙ none)
  | inr some ↦
      let lines : json_line some.0 ++ [] ≡ json_line h.0 ++ more = append-nil (json_line some.0) ∙ sym some.3 ∙ e ∙ ap (λ (l : List ℕ). l ++ more) h.2 in
      let same = same_first_line some.0 h.0 [] more some.1 (shown_printed session before as2 number placed.packet placed.shown h.0 small is.packet is.shown h.1) lines in
      shown_accepted session before as2 number placed.packet placed.shown h.0 h.1 (sym (ap type_in same.0) ∙ some.2)
]

pub same_ended : (session another : Session) (before earlier : Before) (as2 also : Bool) (number place : ℕ) (records others : List PlacedRecord) (text texts last ending : List ℕ)
    → number + length records < 2 ^ 64 → place + length others < 2 ^ 64 → All IsPlacedRecord records → All IsPlacedRecord others → IsEnd last → IsEnd ending
    → ArePlacedLines session before as2 number records text → ArePlacedLines another earlier also place others texts → text ++ last ≡ texts ++ ending
    → shown_in records ≡ shown_in others
same_ended session another before earlier as2 also number place [] [] text texts last ending small fits all too end ends h k e = refl
same_ended session another before earlier as2 also number place [] (other ∷ others) text texts last ending small fits all too end ends h k e =
    let line : last ≡ k.0 ++ (k.1 ++ ending) = sym (ap (λ (l : List ℕ). l ++ last) h) ∙ e ∙ ap (λ (l : List ℕ). l ++ ending) k.4 ∙ append_assoc k.0 k.1 ending in
    absurd (end_or_record another earlier also place other last k.0 (k.1 ++ ending) (omega arith) (All-head IsPlacedRecord other others too) end k.2 line)
same_ended session another before earlier as2 also number place (placed ∷ records) [] text texts last ending small fits all too end ends h k e =
    let line : ending ≡ h.0 ++ (h.1 ++ last) = sym (ap (λ (l : List ℕ). l ++ ending) k) ∙ sym e ∙ ap (λ (l : List ℕ). l ++ last) h.4 ∙ append_assoc h.0 h.1 last in
    absurd (end_or_record session before as2 number placed ending h.0 (h.1 ++ last) (omega arith) (All-head IsPlacedRecord placed records all) ends h.2 line)
same_ended session another before earlier as2 also number place (placed ∷ records) (other ∷ others) text texts last ending small fits all too end ends h k e =
    let whole : h.0 ++ (h.1 ++ last) ≡ k.0 ++ (k.1 ++ ending) = sym (ap (λ (l : List ℕ). l ++ last) h.4 ∙ append_assoc h.0 h.1 last) ∙ e ∙ (ap (λ (l : List ℕ). l ++ ending) k.4 ∙ append_assoc k.0 k.1 ending) in
    let first = first_record session another before earlier as2 also number place placed other h.0 k.0 (h.1 ++ last) (k.1 ++ ending) (omega arith) (omega arith)
    (All-head IsPlacedRecord placed records all) (All-head IsPlacedRecord other others too) h.2 k.2 whole in
    ap₂ ◌∷◌ first.0
    (same_ended session another (before_behind placed.shown before) (before_behind other.shown earlier) as2 also (number + 1) (place + 1) records others h.1 k.1 last ending (omega arith) (omega arith)
    (All-tail IsPlacedRecord placed records all) (All-tail IsPlacedRecord other others too) end ends h.3 k.3 first.1)

pub same_records : (session another : Session) (before earlier : Before) (as2 also : Bool) (number place : ℕ) (records others : List PlacedRecord) (text : List ℕ)
    → number + length records < 2 ^ 64 → place + length others < 2 ^ 64 → All IsPlacedRecord records → All IsPlacedRecord others
    → ArePlacedLines session before as2 number records text → ArePlacedLines another earlier also place others text → shown_in records ≡ shown_in others
same_records session another before earlier as2 also number place records others text small fits all too h k =
    same_ended session another before earlier as2 also number place records others text text [] [] small fits all too (inl refl) (inl refl) h k refl
