-- Lines of JSON that tell of messages and records have no control characters but the line feed at
-- their end.
use Rattle.std.proofs.Common.{◌≡◌, ◌∙◌, ◌++◌, ℕ, Bool, true, false, List, [], ◌∷◌, Option, None, Some, codes, length, refl, subst, sym, inl, inr}
use Rattle.json.specs.Json.{Json, string}
use Rattle.json.specs.Print.{print}
use Rattle.json.specs.Tree.{json_tokens}
use Rattle.mrt.specs.Fault.{fault_name, fault_number}
use Rattle.mrt.specs.declared.fault.CaptureFault.{CaptureFault}
use Rattle.mrt.specs.declared.fault.FaultKind.{FaultKind}
use Rattle.mrt.specs.declared.fault.FaultKind.TheVariants as kinds
use Rattle.bgp_prefix.specs.Shown.{ShownRecord, Received as In, Sent as Out, Changed}
use Rattle.bgp_prefix.specs.declared.address.Address.TheVariants.{V4}
use Rattle.bgp_prefix.specs.declared.family.Family.TheVariants as families
use Rattle.bgp_prefix.specs.declared.session.Session.{Session}
use Rattle.bgp_wire.specs.Header.{header_of, length_of, limit_with, type_of}
use Rattle.bgp_wire.specs.Octets.{AreOctets}
use Rattle.bgp_wire.specs.declared.header.HeaderFaults.{HeaderFaults}
use Rattle.bgp_wire.specs.declared.header.Limit.{Limit}
use Rattle.bgp_open.specs.Open.{OpenFields, open_of, parameters_of}
use Rattle.bgp_open.specs.OpenFault.{open_fault_number}
use Rattle.bgp_update.specs.Destinations.{is_identified}
use Rattle.bgp_update.specs.Parts.{SpellsParts, UpdateParts}
use Rattle.bgp_update.specs.declared.destination.Destination.{Destination}
use Rattle.bgp_text.specs.Message.{Message, Says, open_message, malformed_open_message, update_message, malformed_update_message, notification_message, keepalive_message}
use Rattle.bgp_values.specs.declared.opens.Direction.{Direction}
use Rattle.bgp_values.specs.declared.opens.Direction.TheVariants.{Received, Sent}
use Rattle.bgp_values.specs.declared.opens.Reading.{Reading}
use Rattle.bgp_lines.specs.Form.{Before}
use Rattle.bgp_lines.specs.MessageLine.{fields_of}
use Rattle.bgp_lines.specs.Others.{fault_subcodes}
use Rattle.bgp_json_values.specs.AttributeJson.{attribute_json}
use Rattle.bgp_json_values.specs.CapabilityJson.{capability_json}
use Rattle.bgp_json_values.specs.Objects.{number_of}
use Rattle.bgp_json_values.specs.Octets.{octets_members}
use Rattle.bgp_json.specs.MessageJson.{are_lists_spelled, are_parameters_spelled, octets_unless, open_members, paths_members, update_members}
use Rattle.bgp_json.specs.Object.{json_line, typed}
use Rattle.bgp_json.specs.Others.{capture_json, change_json, change_members, fault_json, header_json, header_members, refusal_members, rest_json}
use Rattle.bgp_json.specs.Place.{direction_json, packet_members, place_members, record_members}
use Rattle.bgp_json.specs.RecordJson.{IsFrameJson, IsMessageJson, IsShownJson, place_at}
use Rattle.bgp_json.specs.declared.place.Place.{Place}
use Rattle.bgp_json.specs.declared.place.Place.TheVariants.{InStream, InRecord}
use Rattle.bgp_json.specs.declared.place.RecordPlace.{RecordPlace}
use Rattle.bgp_json_laws.specs.Laws.{IsAttribute, IsTriplet}
use Rattle.bgp_json_laws.proofs.Messages.{codes_of, in_parts, kind_of, members_of}
use Rattle.bgp_json_laws.proofs.Opens.{each_capability, parameters_are}
use Rattle.bgp_json_laws.proofs.Updates.{each_attribute, sections_are, whole_field}
use Rattle.bgp_visible_laws.specs.JsonLaws.{JsonFaultsAreVisible, JsonFramesAreVisible, JsonRecordsAreVisible, JsonRefusalsAreVisible, JsonRestsAreVisible}
use Rattle.bgp_visible_laws.specs.Laws.{HasOctets}
use Rattle.bgp_visible_laws.specs.Visible.{IsVisibleLine}
use Rattle.bgp_visible_laws.proofs.JsonTexts.{AreTexts, HaveTexts, field, of_any, of_array, of_both, of_number, of_object, of_text, print_visible}
use Rattle.bgp_visible_laws.proofs.JsonValues.{of_address, of_attribute, of_capability, of_destinations, of_error, of_ids, octets_field, unless}
use Rattle.bgp_visible_laws.proofs.Messages.{fault_visible}
use Rattle.bgp_visible_laws.proofs.Texts.{error_visible, state_visible}
use Rattle.bgp_visible_laws.proofs.Visible.{is_word, word}

-- ---- lines

pub line_of : (value : Json) (line : List ℕ) → line ≡ json_line value → AreTexts value → IsVisibleLine line
unfolding json_line
line_of value line is are = (print (json_tokens value), is, print_visible value are)

pub typed_texts : (kind : List ℕ) → is_word kind ≡ true → (ms : List (List ℕ × Json)) → HaveTexts ms → AreTexts (typed kind ms)
typed_texts kind is ms each = of_object ((codes "type", string kind) ∷ ms) (field (codes "type") refl (of_text (word kind is)) each)

-- ---- places

of_packet : (packet : Option ℕ) → HaveTexts (packet_members packet)
of_packet None = tt
of_packet (Some packet) = field (codes "packet") refl (of_number packet) tt

of_record : (place : RecordPlace) → HaveTexts (record_members place)
of_record place = field (codes "record") refl (of_number place.number) (field (codes "second") refl (of_number place.second) (of_packet place.packet))

pub of_direction : (direction : Direction) → AreTexts (direction_json direction)
of_direction Received = of_text (word (codes "received") refl)
of_direction Sent = of_text (word (codes "sent") refl)

of_place : (place : Place) → HaveTexts (place_members place)
of_place (InStream offset) = field (codes "at") refl (of_number offset) tt
of_place (InRecord place direction) = of_both (record_members place) _ (of_record place) (field (codes "direction") refl (of_direction direction) tt)

-- ---- messages

of_open : (octets : List ℕ) → AreOctets octets → HaveTexts (open_members (open_of octets))
of_open octets are =
    field (codes "as") refl (of_number (open_of octets).my_as) (field (codes "hold") refl (of_number (open_of octets).hold) (field (codes "id") refl (of_address (V4 (open_of octets).id))
    (field (codes "capabilities") refl
    (of_array capability_json IsTriplet of_capability (open_of octets).capabilities (each_capability (parameters_of octets) (parameters_are octets are))) tt)))

of_list_paths : (identified : Bool) (withdrawn nlri : List Destination) → HaveTexts (paths_members identified withdrawn nlri)
of_list_paths true withdrawn nlri = field (codes "paths") refl (field (codes "withdrawn") refl (of_ids withdrawn) (field (codes "nlri") refl (of_ids nlri) tt)) tt
of_list_paths false withdrawn nlri = tt

of_update : (reading : Reading) (octets : List ℕ) (parts : UpdateParts) → AreOctets octets → SpellsParts reading.form octets parts → HaveTexts (update_members reading parts octets)
of_update reading octets parts are says =
    let s = says.sections in
    let fields = sections_are octets s are says.update in
    let own = is_identified reading.form families.V4 in
    let each = each_attribute parts.attributes (subst AreOctets (whole_field s.attributes parts.attributes fields.1 says.attributes) fields.1) in
    let spelled = are_lists_spelled parts.withdrawn parts.nlri octets in
    field (codes "withdrawn") refl (of_destinations parts.withdrawn)
    (field (codes "attributes") refl (of_array (attribute_json reading) IsAttribute (of_attribute reading) parts.attributes each)
    (field (codes "nlri") refl (of_destinations parts.nlri)
    (of_both (paths_members own parts.withdrawn parts.nlri) (octets_unless spelled octets) (of_list_paths own parts.withdrawn parts.nlri) (unless spelled octets are))))

of_members : (reading : Reading) (octets : List ℕ) (message : Message) → AreOctets octets → Says reading.form octets message → HaveTexts (members_of reading octets message)
of_members reading octets (open_message fields) are says =
    subst (λ (f : OpenFields). HaveTexts (members_of reading octets (open_message f))) (sym says.2)
    (of_both (open_members (open_of octets)) _ (of_open octets are) (unless (are_parameters_spelled (open_of octets).capabilities (parameters_of octets)) octets are))
of_members reading octets (malformed_open_message fault) are says =
    field (codes "fault") refl (of_number (open_fault_number fault)) (field (codes "name") refl (of_text (fault_visible fault)) (octets_field octets are))
of_members reading octets (update_message parts) are says = of_update reading octets parts are says.1
of_members reading octets malformed_update_message are says = octets_field octets are
of_members reading octets (notification_message code subcode detail) are says =
    of_error (fields_of code subcode detail) (codes_of octets code subcode detail are says.1).2
of_members reading octets keepalive_message are says = tt

kind_word : (message : Message) → is_word (kind_of message) ≡ true
kind_word (open_message fields) = refl
kind_word (malformed_open_message fault) = refl
kind_word (update_message parts) = refl
kind_word malformed_update_message = refl
kind_word (notification_message code subcode detail) = refl
kind_word keepalive_message = refl

frame_texts : (reading : Reading) (place : Place) (frame : List ℕ) (value : Json) → AreOctets frame → IsFrameJson reading place frame value → AreTexts value
frame_texts reading place frame value are is =
    let message = is.0 in
    let whole = typed_texts (kind_of message) (kind_word message) (place_members place ++ members_of reading frame message)
    (of_both (place_members place) (members_of reading frame message) (of_place place) (of_members reading frame message are is.1)) in
    subst AreTexts (sym (is.2 ∙ in_parts reading place frame message)) whole

-- ---- headers with faults, rests, changes and refusals

fault_texts : (subcode : ℕ) → AreTexts (fault_json subcode)
fault_texts subcode =
    field (codes "code") refl (of_number 1) (field (codes "subcode") refl (of_number subcode) (field (codes "name") refl (of_text (error_visible 1 subcode)) tt))

header_texts : (place : Place) (faults : HeaderFaults) (header octets : List ℕ) → AreOctets octets → AreTexts (header_json place faults header octets)
header_texts place faults header octets are =
    typed_texts (codes "fault") refl (place_members place ++ header_members faults header octets)
    (of_both (place_members place) (header_members faults header octets) (of_place place)
    (field (codes "faults") refl (of_any fault_json fault_texts (fault_subcodes faults)) (field (codes "length") refl (of_number (length_of header))
    (field (codes "kind") refl (of_number (type_of header)) (octets_field octets are)))))

message_texts : (reading : Reading) (limit : Limit) (place : Place) (octets : List ℕ) (value : Json) → AreOctets octets → IsMessageJson reading limit place octets value → AreTexts value
message_texts reading limit place octets value are (inl message) = frame_texts reading place octets value are message.1
message_texts reading limit place octets value are (inr faulty) =
    subst AreTexts (sym faulty.1.2) (header_texts place faulty.1.0 (header_of octets) octets are)

change_texts : (place : RecordPlace) (old new : ℕ) → AreTexts (change_json place old new)
change_texts place old new =
    typed_texts (codes "change") refl (record_members place ++ change_members old new)
    (of_both (record_members place) (change_members old new) (of_record place)
    (field (codes "old") refl (of_text (state_visible old)) (field (codes "new") refl (of_text (state_visible new)) tt)))

shown_texts : (session : Session) (before : Before) (as2 : Bool) (number : ℕ) (packet : Option ℕ) (shown : ShownRecord) (value : Json) → HasOctets shown
    → IsShownJson session before as2 number packet shown value → AreTexts value
shown_texts session before as2 number packet (In second octets) value are is = message_texts is.0 (limit_with session.extended) (InRecord (place_at number second packet) Received) octets value are is.2
shown_texts session before as2 number packet (Out second octets) value are is = message_texts is.0 (limit_with session.extended) (InRecord (place_at number second packet) Sent) octets value are is.2
shown_texts session before as2 number packet (Changed second old new) value are is = subst AreTexts (sym is) (change_texts (place_at number second packet) old new)

name_word : (kind : FaultKind) → is_word (fault_name kind) ≡ true
name_word kinds.Truncated = refl
name_word kinds.TooLong = refl
name_word kinds.Body = refl
name_word kinds.BadState = refl
name_word kinds.NotAMessage = refl
name_word kinds.TimeBack = refl
name_word kinds.RouteRefresh = refl
name_word kinds.AddPath = refl
name_word kinds.Device = refl
name_word kinds.Memory = refl

pub refusal_texts : (fault : CaptureFault) → AreTexts (capture_json fault)
refusal_texts fault =
    typed_texts (codes "refused") refl
    (refusal_members (codes "capture") (fault_number fault.kind) (fault_name fault.kind) ++ (codes "at", number_of fault.offset) ∷ [])
    (field (codes "what") refl (of_text (word (codes "capture") refl)) (field (codes "number") refl (of_number (fault_number fault.kind))
    (field (codes "name") refl (of_text (word (fault_name fault.kind) (name_word fault.kind))) (field (codes "at") refl (of_number fault.offset) tt))))

-- ---- laws

pub json_frames : JsonFramesAreVisible
json_frames before as2 direction offset frame line are is =
    let value = is.2 in
    line_of value.0 line value.2 (frame_texts is.0 (InStream offset) frame value.0 are value.1)

pub json_records : JsonRecordsAreVisible
json_records session before as2 number placed line are is =
    line_of is.0 line is.2 (shown_texts session before as2 number placed.packet placed.shown is.0 are is.1)

pub json_faults : JsonFaultsAreVisible
json_faults place faults header octets are = line_of (header_json place faults header octets) _ refl (header_texts place faults header octets are)

pub json_rests : JsonRestsAreVisible
json_rests offset octets are =
    line_of (rest_json offset octets) _ refl
    (typed_texts (codes "rest") refl ((codes "at", number_of offset) ∷ (codes "count", number_of (length octets)) ∷ octets_members octets) (field (codes "at") refl (of_number offset) (field (codes "count") refl (of_number (length octets)) (octets_field octets are))))

pub json_refusals : JsonRefusalsAreVisible
json_refusals fault = line_of (capture_json fault) _ refl (refusal_texts fault)
