-- Records have one text in each form.
use Rattle.std.proofs.Common.{◌≡◌, ◌∙◌, ◌+◌, ◌++◌, ℕ, Bool, List, [], ◌∷◌, codes, refl, sym, ap, subst, inl, inr, Option}
use Rattle.bgp_prefix.specs.Shown.{ShownRecord, Received as In, Sent as Out, Changed}
use Rattle.bgp_prefix.specs.declared.session.Session.{Session}
use Rattle.bgp_wire.specs.declared.header.HeaderFaults.{HeaderFaults}
use Rattle.bgp_wire.specs.declared.header.Limit.{Limit}
use Rattle.bgp_wire.specs.Header.{header_of, limit_with}
use Rattle.bgp_wire.specs.Verdict.{AreFaults}
use Rattle.bgp_wire.proofs.OneFaultSet.{same_fields}
use Rattle.bgp_open.specs.declared.route_form.RouteForm.{RouteForm}
use Rattle.bgp_open.specs.RouteForm.{plain_form}
use Rattle.bgp_text.specs.Capture.{IsMessageText, IsRecordText, faulty_text, message_text}
use Rattle.bgp_text.specs.Text.{text_of}
use Rattle.bgp_text.proofs.OneMessage.{one_message}
use Rattle.bgp_values.specs.declared.opens.Direction.{Direction}
use Rattle.bgp_values.specs.declared.opens.Direction.TheVariants.{Received, Sent}
use Rattle.bgp_values.specs.declared.opens.Reading.{Reading}
use Rattle.bgp_json.specs.Form.{Before, IsNamedMessage, IsNamedMessageOf, IsNamedRecord, IsPlacedLine, PlacedRecord, before_behind, placed_text}
use Rattle.bgp_json.specs.MessageLine.{named_text}
use Rattle.bgp_json.specs.LinesOthers.{named_fault}
use Rattle.bgp_json.specs.LineForm.{LineForm}
use Rattle.bgp_json.specs.LineForm.TheVariants.{Plain, Names}
use Rattle.bgp_json.proofs.OneOffer.{one_reading}
use Rattle.bgp_json.specs.Output.{AreRecordOutputs, IsRecordOutput}
use Rattle.bgp_json.specs.declared.output_form.OutputForm.{OutputForm}
use Rattle.bgp_json.specs.declared.output_form.OutputForm.TheVariants.{Text, Json}
use Rattle.bgp_json.proofs.OneOutput.{one_placed_json}

-- the faults of one header have one text
one_faulty : (limit : Limit) (header : List ℕ) (faults others : HeaderFaults) → AreFaults limit header faults → AreFaults limit header others
    → faulty_text faults ≡ faulty_text others
unfolding faulty_text
one_faulty limit header faults others h k =
    let same = same_fields limit header faults others h k in
    rw (same.0, same.1, same.2) refl

one_named_fault : (limit : Limit) (octets : List ℕ) (faults others : HeaderFaults) → AreFaults limit (header_of octets) faults
    → AreFaults limit (header_of octets) others → named_fault faults octets ≡ named_fault others octets
unfolding named_fault
one_named_fault limit octets faults others h k =
    let same = same_fields limit (header_of octets) faults others h k in
    rw (same.0, same.1, same.2) refl

-- a message has one text
one_message_text : (form : RouteForm) (limit : Limit) (octets text other : List ℕ) → IsMessageText form limit octets text → IsMessageText form limit octets other
    → text ≡ other
one_message_text form limit octets text other h k = elim h [
  | inl a ↦ elim k [
    | inl b ↦ a.1.2 ∙ ap text_of (one_message form octets a.1.0 b.1.0 a.1.1 b.1.1) ∙ sym b.1.2
    | inr b ↦ absurd (b.0.1 a.0.sound)
  ]
  | inr a ↦ elim k [
    | inl b ↦ absurd (a.0.1 b.0.sound)
    | inr b ↦ a.1.2 ∙ one_faulty limit (header_of octets) a.1.0 b.1.0 a.1.1 b.1.1 ∙ sym b.1.2
  ]
]

one_named_message : (reading : Reading) (limit : Limit) (octets text other : List ℕ) → IsNamedMessage reading limit octets text
    → IsNamedMessage reading limit octets other → text ≡ other
one_named_message reading limit octets text other h k = elim h [
  | inl a ↦ elim k [
    | inl b ↦ a.1.2 ∙ ap (named_text reading octets) (one_message reading.form octets a.1.0 b.1.0 a.1.1 b.1.1) ∙ sym b.1.2
    | inr b ↦ absurd (b.0.1 a.0.sound)
  ]
  | inr a ↦ elim k [
    | inl b ↦ absurd (a.0.1 b.0.sound)
    | inr b ↦ a.1.2 ∙ one_named_fault limit octets a.1.0 b.1.0 a.1.1 b.1.1 ∙ sym b.1.2
  ]
]

one_named_message_of : (session : Session) (before : Before) (as2 : Bool) (direction : Direction) (octets text other : List ℕ)
    → IsNamedMessageOf session before as2 direction octets text → IsNamedMessageOf session before as2 direction octets other → text ≡ other
one_named_message_of session before as2 direction octets text other h k =
    let same = one_reading before as2 direction h.0 k.0 h.1 k.1 in
    one_named_message h.0 (limit_with session.extended) octets text other h.2
    (subst (λ (r : Reading). IsNamedMessage r (limit_with session.extended) octets other) (sym same) k.2)

-- a record has one text
one_record_text : (session : Session) (shown : ShownRecord) (text other : List ℕ) → IsRecordText session plain_form shown text
    → IsRecordText session plain_form shown other → text ≡ other
one_record_text session (In second octets) text other h k =
    h.2 ∙ ap (message_text second (codes " received ")) (one_message_text plain_form (limit_with session.extended) octets h.0 k.0 h.1 k.1) ∙ sym k.2
one_record_text session (Out second octets) text other h k =
    h.2 ∙ ap (message_text second (codes " sent ")) (one_message_text plain_form (limit_with session.extended) octets h.0 k.0 h.1 k.1) ∙ sym k.2
one_record_text session (Changed second old new) text other h k = h ∙ sym k

one_named_record : (session : Session) (before : Before) (as2 : Bool) (packet : Option ℕ) (shown : ShownRecord) (text other : List ℕ)
    → IsNamedRecord session before as2 packet shown text → IsNamedRecord session before as2 packet shown other → text ≡ other
one_named_record session before as2 packet (In second octets) text other h k =
    h.2 ∙ ap (placed_text second packet (codes " received ")) (one_named_message_of session before as2 Received octets h.0 k.0 h.1 k.1) ∙ sym k.2
one_named_record session before as2 packet (Out second octets) text other h k =
    h.2 ∙ ap (placed_text second packet (codes " sent ")) (one_named_message_of session before as2 Sent octets h.0 k.0 h.1 k.1) ∙ sym k.2
one_named_record session before as2 packet (Changed second old new) text other h k = h ∙ sym k

-- and one line
one_placed : (form : LineForm) (session : Session) (before : Before) (placed : PlacedRecord) (line other : List ℕ) → IsPlacedLine form session before placed line
    → IsPlacedLine form session before placed other → line ≡ other
one_placed Plain session before placed line other h k =
    h.2 ∙ ap (λ (t : List ℕ). t ++ codes "\n") (one_record_text session placed.shown h.0 k.0 h.1 k.1) ∙ sym k.2
one_placed (Names as2) session before placed line other h k =
    h.2 ∙ ap (λ (t : List ℕ). t ++ codes "\n") (one_named_record session before as2 placed.packet placed.shown h.0 k.0 h.1 k.1) ∙ sym k.2

one_record_output : (form : OutputForm) (session : Session) (before : Before) (number : ℕ) (placed : PlacedRecord) (line other : List ℕ)
    → IsRecordOutput form session before number placed line → IsRecordOutput form session before number placed other → line ≡ other
one_record_output (Text form) session before number placed line other h k = one_placed form session before placed line other h k
one_record_output (Json as2) session before number placed line other h k = one_placed_json session before as2 number placed line other h k

pub one_text_of : (form : OutputForm) (session : Session) (before : Before) (number : ℕ) (records : List PlacedRecord) (text other : List ℕ)
    → AreRecordOutputs form session before number records text → AreRecordOutputs form session before number records other → text ≡ other
one_text_of form session before number [] text other h k = h ∙ sym k
one_text_of form session before number (placed ∷ records) text other h k =
    let line = one_record_output form session before number placed h.0 k.0 h.2 k.2 in
    let rest = one_text_of form session (before_behind placed.shown before) (number + 1) records h.1 k.1 h.3 k.3 in
    h.4 ∙ ap (λ (t : List ℕ). t ++ h.1) line ∙ ap (λ (t : List ℕ). k.0 ++ t) rest ∙ sym k.4
