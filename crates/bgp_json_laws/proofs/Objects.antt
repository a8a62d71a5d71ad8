-- Objects of messages and of headers with faults: equal ones are of the same octets.
use Rattle.std.proofs.Common.{◌≡◌, ◌∙◌, ◌++◌, ◌<◌, ◌^◌, ℕ, Bool, true, false, List, [], All, Option, None, Some, bytes_eq, codes, is_some, refl, sym, ap, subst, arith, inl, inr}
use Rattle.std.proofs.lemmas.List.Elements.{All-append, All-cons, All-drop, All-nil, All-take}
use Rattle.json.specs.Json.{Json}
use Rattle.bgp_wire.specs.Header.{header_of, length_of, type_of}
use Rattle.bgp_wire.specs.Octets.{AreOctets}
use Rattle.bgp_wire.specs.declared.header.HeaderFaults.{HeaderFaults}
use Rattle.bgp_wire.specs.declared.header.Limit.{Limit}
use Rattle.bgp_text.specs.Message.{Message, Says, open_message, malformed_open_message, update_message, malformed_update_message, notification_message, keepalive_message}
use Rattle.bgp_values.specs.declared.opens.Reading.{Reading}
use Rattle.bgp_lines.specs.Others.{fault_subcodes, subcode_if}
use Rattle.bgp_json.specs.MessageJson.{message_json}
use Rattle.bgp_json.specs.Object.{typed}
use Rattle.bgp_json.specs.Others.{fault_json, header_json, header_members}
use Rattle.bgp_json.specs.Place.{packet_members, place_members, record_members}
use Rattle.bgp_json.specs.RecordJson.{IsFrameJson, IsMessageJson}
use Rattle.bgp_json.specs.declared.place.Place.{Place}
use Rattle.bgp_json.specs.declared.place.Place.TheVariants.{InStream, InRecord}
use Rattle.bgp_json.specs.declared.place.RecordPlace.{RecordPlace}
use Rattle.bgp_json.proofs.Shallow.{header_shallow, message_shallow}
use Rattle.bgp_json_laws.specs.Lines.{IsPacket, IsPlace}
use Rattle.bgp_json_laws.proofs.Decimals.{HasDecimals, HaveDecimals, of_array, of_both, of_number, of_object}
use Rattle.bgp_json_laws.proofs.Lookups.{of_key}
use Rattle.bgp_json_laws.proofs.MessageDecimals.{of_members}
use Rattle.bgp_json_laws.proofs.Messages.{in_parts, kind_of, members_of, same_message}
use Rattle.bgp_json_laws.proofs.Places.{differ, same_typed}
use Rattle.bgp_json_laws.proofs.Printing.{IsPrinted}
use Rattle.bgp_json_laws.proofs.Texts.{IsOctet, bytes_of, number_fits, same_octets}

-- ---- equal objects

no_fault : (message : Message) → bytes_eq (kind_of message) (codes "fault") ≡ false
no_fault (open_message fields) = refl
no_fault (malformed_open_message fault) = refl
no_fault (update_message parts) = refl
no_fault malformed_update_message = refl
no_fault (notification_message code subcode detail) = refl
no_fault keepalive_message = refl

-- a message is no header with faults
pub message_or_fault : (reading : Reading) (place elsewhere : Place) (octets header others : List ℕ) (message : Message) (faults : HeaderFaults)
    → message_json reading place octets message ≡ header_json elsewhere faults header others → ⊥
message_or_fault reading place elsewhere octets header others message faults e =
    let same = same_typed (kind_of message) (codes "fault") place elsewhere (members_of reading octets message) (header_members faults header others)
    (sym (in_parts reading place octets message) ∙ e) in
    differ (kind_of message) (codes "fault") (no_fault message) refl same.0

pub same_header : (place elsewhere : Place) (faults also : HeaderFaults) (header another octets others : List ℕ) → AreOctets octets → AreOctets others
    → header_json place faults header octets ≡ header_json elsewhere also another others → octets ≡ others
same_header place elsewhere faults also header another octets others are too e =
    let same = same_typed (codes "fault") (codes "fault") place elsewhere (header_members faults header octets) (header_members also another others) e in
    same_octets octets others are too (ap (of_key (codes "octets")) same.1)

pub same_frame : (reading other : Reading) (place elsewhere : Place) (octets others : List ℕ) (value : Json) → AreOctets octets → AreOctets others
    → IsFrameJson reading place octets value → IsFrameJson other elsewhere others value → octets ≡ others
same_frame reading other place elsewhere octets others value are too h k =
    same_message reading other place elsewhere octets others h.0 k.0 are too h.1 k.1 (sym h.2 ∙ k.2)

pub same_object : (reading other : Reading) (limit also : Limit) (place elsewhere : Place) (octets others : List ℕ) (value : Json) → AreOctets octets → AreOctets others
    → IsMessageJson reading limit place octets value → IsMessageJson other also elsewhere others value → octets ≡ others
same_object reading other limit also place elsewhere octets others value are too h k = elim h [
  | inl a ↦ elim k [
    | inl b ↦ same_frame reading other place elsewhere octets others value are too a.1 b.1
    | inr b ↦ absurd (message_or_fault reading place elsewhere octets _ others a.1.0 b.1.0 (sym a.1.2 ∙ b.1.2))
  ]
  | inr a ↦ elim k [
    | inl b ↦ absurd (message_or_fault other elsewhere place others _ octets b.1.0 a.1.0 (sym b.1.2 ∙ a.1.2))
    | inr b ↦ same_header place elsewhere a.1.0 b.1.0 _ _ octets others are too (sym a.1.2 ∙ b.1.2)
  ]
]

-- ---- they can be read back

packet_decimals : (packet : Option ℕ) → IsPacket packet → HaveDecimals (packet_members packet)
packet_decimals None is = tt
packet_decimals (Some packet) is = (of_number packet is, tt)

pub record_decimals : (place : RecordPlace) → place.number < 2 ^ 64 → place.second < 2 ^ 64 → IsPacket place.packet → HaveDecimals (record_members place)
record_decimals place number second packet = (of_number place.number number, (of_number place.second second, packet_decimals place.packet packet))

place_decimals : (place : Place) → IsPlace place → HaveDecimals (place_members place)
place_decimals (InStream offset) is = (of_number offset is, tt)
place_decimals (InRecord place direction) is = of_both (record_members place) _ (record_decimals place is.0 is.1 is.2) (tt, tt)

of_typed : (kind : List ℕ) (place : Place) (ms : List (List ℕ × Json)) → IsPlace place → HaveDecimals ms → HasDecimals (typed kind (place_members place ++ ms))
of_typed kind place ms is each = (tt, (of_object (place_members place ++ ms) (of_both (place_members place) ms (place_decimals place is) each)))

message_decimals : (reading : Reading) (place : Place) (octets : List ℕ) (message : Message) → IsPlace place → AreOctets octets → Says reading.form octets message
    → HasDecimals (message_json reading place octets message)
message_decimals reading place octets message is are says =
    subst HasDecimals (sym (in_parts reading place octets message))
    (of_typed (kind_of message) place (members_of reading octets message) is (of_members reading octets message are says))

abbrev Small : ℕ → Type 0
Small n = n < 2 ^ 64

subcode_small : (at_fault : Bool) (subcode : ℕ) → subcode < 2 ^ 64 → All Small (subcode_if at_fault subcode)
subcode_small true subcode small = All-cons Small subcode [] small (All-nil Small)
subcode_small false subcode small = All-nil Small

subcodes_small : (faults : HeaderFaults) → All Small (fault_subcodes faults)
subcodes_small faults =
    All-append Small (subcode_if faults.marker 1) _ (subcode_small faults.marker 1 (omega arith))
    (All-append Small (subcode_if (is_some faults.length) 2) (subcode_if (is_some faults.kind) 3) (subcode_small (is_some faults.length) 2 (omega arith)) (subcode_small (is_some faults.kind) 3 (omega arith)))

length_small : (header : List ℕ) → AreOctets header → length_of header < 2 ^ 64
unfolding length_of
length_small header are = let small = number_fits 2 _ (All-drop IsOctet 16 header are) in omega (arith, small)

type_small : (header : List ℕ) → AreOctets header → type_of header < 2 ^ 64
unfolding type_of
type_small header are = let small = bytes_of header are 18 in omega (arith, small)

header_decimals : (place : Place) (faults : HeaderFaults) (header octets : List ℕ) → IsPlace place → AreOctets header → HasDecimals (header_json place faults header octets)
header_decimals place faults header octets is are =
    of_typed (codes "fault") place (header_members faults header octets) is (
      of_array fault_json Small (λ n small. (of_number 1 (omega arith), (of_number n small, (tt, tt)))) (fault_subcodes faults) (subcodes_small faults),
      (of_number (length_of header) (length_small header are), (of_number (type_of header) (type_small header are), (tt, tt))),
    )

pub header_printed : (place : Place) (faults : HeaderFaults) (header octets : List ℕ) → IsPlace place → AreOctets header → IsPrinted (header_json place faults header octets)
header_printed place faults header octets is are = record { decimals = header_decimals place faults header octets is are; shallow = header_shallow place faults header octets }

pub frame_printed : (reading : Reading) (place : Place) (octets : List ℕ) (value : Json) → IsPlace place → AreOctets octets → IsFrameJson reading place octets value → IsPrinted value
frame_printed reading place octets value is are h =
    subst IsPrinted (sym h.2) record { decimals = message_decimals reading place octets h.0 is are h.1; shallow = message_shallow reading place octets h.0 }

pub object_printed : (reading : Reading) (limit : Limit) (place : Place) (octets : List ℕ) (value : Json) → IsPlace place → AreOctets octets → IsMessageJson reading limit place octets value
    → IsPrinted value
object_printed reading limit place octets value is are h = elim h [
  | inl a ↦ frame_printed reading place octets value is are a.1
  | inr a ↦ subst IsPrinted (sym a.1.2) (header_printed place a.1.0 (header_of octets) octets is (All-take IsOctet 19 octets are))
]
