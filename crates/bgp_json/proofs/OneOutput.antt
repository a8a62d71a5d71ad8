-- A frame and a header with faults have one line in each form, and a record has one in JSON.
use Rattle.std.proofs.Common.{◌≡◌, ◌∙◌, ℕ, Bool, List, Option, refl, sym, ap, subst, inl, inr}
use Rattle.json.specs.Json.{Json}
use Rattle.bgp_prefix.specs.Shown.{ShownRecord, Received as In, Sent as Out, Changed}
use Rattle.bgp_prefix.specs.declared.session.Session.{Session}
use Rattle.bgp_wire.specs.Framing.{IsFrame}
use Rattle.bgp_wire.specs.Header.{header_of, limit_with}
use Rattle.bgp_wire.specs.Verdict.{AreFaults}
use Rattle.bgp_wire.specs.declared.header.HeaderFaults.{HeaderFaults}
use Rattle.bgp_wire.specs.declared.header.Limit.{Limit}
use Rattle.bgp_wire.proofs.OneFaultSet.{same_fields}
use Rattle.bgp_text.specs.Text.{fault_line}
use Rattle.bgp_text.proofs.EachMessage.{each_message}
use Rattle.bgp_text.proofs.OneMessage.{one_message}
use Rattle.bgp_values.specs.Opens.{reading_by}
use Rattle.bgp_values.specs.declared.opens.Direction.{Direction}
use Rattle.bgp_values.specs.declared.opens.Direction.TheVariants.{Received, Sent}
use Rattle.bgp_values.specs.declared.opens.Reading.{Reading}
use Rattle.bgp_lines.specs.Form.{Before, PlacedRecord, fault_line_in}
use Rattle.bgp_lines.specs.Others.{named_stream_fault}
use Rattle.bgp_lines.specs.declared.form.LineForm.{LineForm}
use Rattle.bgp_lines.specs.declared.form.LineForm.TheVariants.{Plain, Names}
use Rattle.bgp_lines.proofs.OneLine.{each_line, one_line}
use Rattle.bgp_lines.proofs.OneOffer.{each_opens, one_reading}
use Rattle.bgp_json.specs.MessageJson.{message_json}
use Rattle.bgp_json.specs.Object.{json_line}
use Rattle.bgp_json.specs.Others.{header_json}
use Rattle.bgp_json.specs.Output.{IsFrameOutput, fault_output}
use Rattle.bgp_json.specs.RecordJson.{IsFrameJson, IsMessageJson, IsMessageJsonOf, IsPlacedLine, IsShownJson, place_at}
use Rattle.bgp_json.specs.declared.output_form.OutputForm.{OutputForm}
use Rattle.bgp_json.specs.declared.output_form.OutputForm.TheVariants as forms
use Rattle.bgp_json.specs.declared.place.Place.{Place}
use Rattle.bgp_json.specs.declared.place.Place.TheVariants.{InStream, InRecord}
use Rattle.bgp_json.specs.declared.place.RecordPlace.{RecordPlace}

-- each frame has a line
pub each_output : (form : OutputForm) (before : Before) (direction : Direction) (offset : ℕ) (limit : Limit) (frame : List ℕ) → IsFrame limit frame
    → (line : List ℕ) × IsFrameOutput form before direction offset frame line
each_output (forms.Text form) before direction offset limit frame whole = each_line form before direction limit frame whole
each_output (forms.Json as2) before direction offset limit frame whole =
    let opens = each_opens before in
    let reading = reading_by as2 direction opens.0 in
    let said = each_message reading.form limit frame whole in
    let value = message_json reading (InStream offset) frame said.0 in
    (json_line value, (reading, (opens.0, opens.1, refl), (value, (said.0, said.1, refl), refl)))

-- what a frame says has one object
one_frame_json : (reading : Reading) (place : Place) (frame : List ℕ) (value other : Json) → IsFrameJson reading place frame value
    → IsFrameJson reading place frame other → value ≡ other
one_frame_json reading place frame value other h k =
    h.2 ∙ ap (message_json reading place frame) (one_message reading.form frame h.0 k.0 h.1 k.1) ∙ sym k.2

-- and no other
pub one_output : (form : OutputForm) (before : Before) (direction : Direction) (offset : ℕ) (frame line other : List ℕ)
    → IsFrameOutput form before direction offset frame line → IsFrameOutput form before direction offset frame other → line ≡ other
one_output (forms.Text form) before direction offset frame line other h k = one_line form before direction frame line other h k
one_output (forms.Json as2) before direction offset frame line other h k =
    let same = one_reading before as2 direction h.0 k.0 h.1 k.1 in
    let is = subst (λ (r : Reading). IsFrameJson r (InStream offset) frame k.2.0) (sym same) k.2.1 in
    h.2.2 ∙ ap json_line (one_frame_json h.0 (InStream offset) frame h.2.0 k.2.0 h.2.1 is) ∙ sym k.2.2

-- the faults of one header have one object
one_fault_json : (limit : Limit) (place : Place) (header octets : List ℕ) (faults others : HeaderFaults) → AreFaults limit header faults
    → AreFaults limit header others → header_json place faults header octets ≡ header_json place others header octets
one_fault_json limit place header octets faults others h k =
    let same = same_fields limit header faults others h k in
    rw (same.0, same.1, same.2) refl

one_fault_line : (limit : Limit) (form : LineForm) (offset : ℕ) (header : List ℕ) (faults others : HeaderFaults) → AreFaults limit header faults
    → AreFaults limit header others → fault_line_in form offset faults header ≡ fault_line_in form offset others header
unfolding fault_line named_stream_fault
one_fault_line limit Plain offset header faults others h k =
    let same = same_fields limit header faults others h k in
    rw (same.0, same.1, same.2) refl
one_fault_line limit (Names as2) offset header faults others h k =
    let same = same_fields limit header faults others h k in
    rw (same.0, same.1, same.2) refl

-- and one line
pub one_fault_output : (limit : Limit) (form : OutputForm) (offset : ℕ) (header : List ℕ) (faults others : HeaderFaults) → AreFaults limit header faults
    → AreFaults limit header others → fault_output form offset faults header ≡ fault_output form offset others header
one_fault_output limit (forms.Text form) offset header faults others h k = one_fault_line limit form offset header faults others h k
one_fault_output limit (forms.Json as2) offset header faults others h k =
    ap json_line (one_fault_json limit (InStream offset) header header faults others h k)

one_message_json : (reading : Reading) (limit : Limit) (place : Place) (octets : List ℕ) (value other : Json) → IsMessageJson reading limit place octets value
    → IsMessageJson reading limit place octets other → value ≡ other
one_message_json reading limit place octets value other h k = elim h [
  | inl a ↦ elim k [
    | inl b ↦ one_frame_json reading place octets value other a.1 b.1
    | inr b ↦ absurd (b.0.1 a.0.sound)
  ]
  | inr a ↦ elim k [
    | inl b ↦ absurd (a.0.1 b.0.sound)
    | inr b ↦ a.1.2 ∙ one_fault_json limit place (header_of octets) octets a.1.0 b.1.0 a.1.1 b.1.1 ∙ sym b.1.2
  ]
]

one_message_json_of : (session : Session) (before : Before) (as2 : Bool) (place : RecordPlace) (direction : Direction) (octets : List ℕ) (value other : Json)
    → IsMessageJsonOf session before as2 place direction octets value → IsMessageJsonOf session before as2 place direction octets other → value ≡ other
one_message_json_of session before as2 place direction octets value other h k =
    let same = one_reading before as2 direction h.0 k.0 h.1 k.1 in
    one_message_json h.0 (limit_with session.extended) (InRecord place direction) octets value other h.2
    (subst (λ (r : Reading). IsMessageJson r (limit_with session.extended) (InRecord place direction) octets other) (sym same) k.2)

one_shown_json : (session : Session) (before : Before) (as2 : Bool) (number : ℕ) (packet : Option ℕ) (shown : ShownRecord) (value other : Json)
    → IsShownJson session before as2 number packet shown value → IsShownJson session before as2 number packet shown other → value ≡ other
one_shown_json session before as2 number packet (In second octets) value other h k =
    one_message_json_of session before as2 (place_at number second packet) Received octets value other h k
one_shown_json session before as2 number packet (Out second octets) value other h k =
    one_message_json_of session before as2 (place_at number second packet) Sent octets value other h k
one_shown_json session before as2 number packet (Changed second old new) value other h k = h ∙ sym k

-- a record has one line in JSON
pub one_placed_json : (session : Session) (before : Before) (as2 : Bool) (number : ℕ) (placed : PlacedRecord) (line other : List ℕ)
    → IsPlacedLine session before as2 number placed line → IsPlacedLine session before as2 number placed other → line ≡ other
one_placed_json session before as2 number placed line other h k =
    h.2 ∙ ap json_line (one_shown_json session before as2 number placed.packet placed.shown h.0 k.0 h.1 k.1) ∙ sym k.2
