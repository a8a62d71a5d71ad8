-- Objects nest less deep than a reader of JSON goes.
use Rattle.std.proofs.Common.{◌≤◌, ◌++◌, ℕ, suc, Bool, true, false, List, [], ◌∷◌, Option, None, Some, arith, codes, length}
use Rattle.json.specs.Json.{Json, max_depth, string}
use Rattle.json.specs.Tree.{depth}
use Rattle.mrt.specs.Fault.{fault_name, fault_number}
use Rattle.mrt.specs.declared.fault.CaptureFault.{CaptureFault}
use Rattle.bgp_prefix.specs.declared.family.Family.TheVariants.{V4}
use Rattle.bgp_wire.specs.declared.header.HeaderFaults.{HeaderFaults}
use Rattle.bgp_attr.specs.Field.{Attribute}
use Rattle.bgp_update.specs.Destinations.{is_identified}
use Rattle.bgp_update.specs.declared.destination.Destination.{Destination}
use Rattle.bgp_text.specs.Message.{Message, open_message, malformed_open_message, update_message, malformed_update_message, notification_message, keepalive_message}
use Rattle.bgp_values.specs.declared.opens.Direction.{Direction}
use Rattle.bgp_values.specs.declared.opens.Reading.{Reading}
use Rattle.bgp_lines.specs.MessageLine.{fields_of}
use Rattle.bgp_lines.specs.Others.{fault_subcodes}
use Rattle.bgp_json_values.specs.ErrorJson.{error_members, error_name_json}
use Rattle.bgp_json_values.specs.Objects.{number_of}
use Rattle.bgp_json_values.specs.Octets.{octets_members}
use Rattle.bgp_json_values.specs.RoutesJson.{ids_of, path_ids_json}
use Rattle.bgp_json_values.proofs.Depths.{AreWithin, array_depth, attributes_depth, both_within, capabilities_depth, destinations_depth, error_within, object_depth, path_ids_depth}
use Rattle.bgp_json.specs.MessageJson.{are_lists_spelled, malformed_open_members, message_json, octets_unless, open_members, paths_json, paths_members, said_members, update_members}
use Rattle.bgp_json.specs.Object.{typed}
use Rattle.bgp_json.specs.Others.{capture_json, change_json, change_members, fault_json, header_json, header_members, octet_members, recording_json, refusal_members, rest_json}
use Rattle.bgp_json.specs.Place.{packet_members, place_members, record_members}
use Rattle.bgp_json.specs.declared.place.Place.{Place}
use Rattle.bgp_json.specs.declared.place.Place.TheVariants.{InStream, InRecord}
use Rattle.bgp_json.specs.declared.place.RecordPlace.{RecordPlace}

wider : (m n : ℕ) (members : List (List ℕ × Json)) → m ≤ n → AreWithin m members → AreWithin n members
wider m n [] more each = tt
wider m n (x ∷ members) more each = (let d = each.0 in omega (arith, d, more), wider m n members more each.1)

shallow : (kind : List ℕ) (members : List (List ℕ × Json)) → AreWithin 6 members → depth (typed kind members) ≤ max_depth
shallow kind members each =
    let d = object_depth 6 ((codes "type", string kind) ∷ members) (omega arith, each) in omega (arith, d)

-- ---- places

packet_within : (packet : Option ℕ) → AreWithin 6 (packet_members packet)
packet_within None = tt
packet_within (Some packet) = (omega arith, tt)

record_within : (place : RecordPlace) → AreWithin 6 (record_members place)
record_within place = (omega arith, (omega arith, packet_within place.packet))

place_within : (place : Place) → AreWithin 6 (place_members place)
place_within (InStream offset) = (omega arith, tt)
place_within (InRecord place direction) = both_within 6 (record_members place) _ (record_within place) (omega arith, tt)

at_place : (kind : List ℕ) (place : Place) (members : List (List ℕ × Json)) → AreWithin 6 members → depth (typed kind (place_members place ++ members)) ≤ max_depth
at_place kind place members each = shallow kind (place_members place ++ members) (both_within 6 (place_members place) members (place_within place) each)

-- ---- messages

unless_within : (is_spelled : Bool) (octets : List ℕ) → AreWithin 6 (octets_unless is_spelled octets)
unless_within true octets = tt
unless_within false octets = (omega arith, tt)

paths_within : (identified : Bool) (withdrawn nlri : List Destination) → AreWithin 6 (paths_members identified withdrawn nlri)
paths_within true withdrawn nlri =
    let first = path_ids_depth (ids_of withdrawn) in
    let second = path_ids_depth (ids_of nlri) in
    let d = object_depth 1 ((codes "withdrawn", path_ids_json withdrawn) ∷ (codes "nlri", path_ids_json nlri) ∷ []) (first, (second, tt)) in (omega (arith, d), tt)
paths_within false withdrawn nlri = tt

pub message_shallow : (reading : Reading) (place : Place) (octets : List ℕ) (message : Message) → depth (message_json reading place octets message) ≤ max_depth
message_shallow reading place octets (open_message fields) =
    let d = capabilities_depth fields.capabilities in
    at_place (codes "open") place _ (both_within 6 (open_members fields) _ (omega arith, (omega arith, (omega arith, (omega (arith, d), tt)))) (unless_within _ octets))
message_shallow reading place octets (malformed_open_message fault) = at_place (codes "malformed_open") place (malformed_open_members fault octets) (omega arith, (omega arith, (omega arith, tt)))
message_shallow reading place octets (update_message parts) =
    let first = destinations_depth parts.withdrawn in
    let second = attributes_depth reading parts.attributes in
    let third = destinations_depth parts.nlri in
    let identified = is_identified reading.form V4 in
    let is_spelled = are_lists_spelled parts.withdrawn parts.nlri octets in
    let hidden = octets_unless is_spelled octets in
    let paths = paths_members identified parts.withdrawn parts.nlri in
    at_place (codes "update") place (update_members reading parts octets)
    (both_within 6 (said_members reading parts) (paths ++ hidden) (omega (arith, first), (second, (omega (arith, third), tt))) (both_within 6 paths hidden (paths_within identified parts.withdrawn parts.nlri) (unless_within is_spelled octets)))
message_shallow reading place octets malformed_update_message = at_place (codes "malformed_update") place _ (omega arith, tt)
message_shallow reading place octets (notification_message code subcode detail) =
    let e = fields_of code subcode detail in
    at_place (codes "notification") place (error_members e) (wider 2 6 (error_members e) (omega arith) (error_within e))
message_shallow reading place octets keepalive_message = shallow (codes "keepalive") (place_members place) (place_within place)

-- ---- what is no message

fault_depth : (subcode : ℕ) → depth (fault_json subcode) ≤ 1
fault_depth subcode =
    object_depth 0 ((codes "code", number_of 1) ∷ (codes "subcode", number_of subcode) ∷ (codes "name", error_name_json 1 subcode) ∷ []) (omega arith, (omega arith, (omega arith, tt)))

pub header_shallow : (place : Place) (faults : HeaderFaults) (header octets : List ℕ) → depth (header_json place faults header octets) ≤ max_depth
header_shallow place faults header octets =
    let d = array_depth 1 fault_json (fault_subcodes faults) fault_depth in
    at_place (codes "fault") place (header_members faults header octets) (omega (arith, d), (omega arith, (omega arith, (omega arith, tt))))

pub rest_shallow : (offset : ℕ) (octets : List ℕ) → depth (rest_json offset octets) ≤ max_depth
rest_shallow offset octets =
    shallow (codes "rest") ((codes "at", number_of offset) ∷ (codes "count", number_of (length octets)) ∷ octets_members octets) (omega arith, (omega arith, (omega arith, tt)))

pub change_shallow : (place : RecordPlace) (old new : ℕ) → depth (change_json place old new) ≤ max_depth
change_shallow place old new =
    shallow (codes "change") (record_members place ++ change_members old new) (both_within 6 (record_members place) (change_members old new) (record_within place) (omega arith, (omega arith, tt)))

pub capture_shallow : (fault : CaptureFault) → depth (capture_json fault) ≤ max_depth
capture_shallow fault =
    shallow (codes "refused") (refusal_members (codes "capture") (fault_number fault.kind) (fault_name fault.kind) ++ (codes "at", number_of fault.offset) ∷ [])
    (omega arith, (omega arith, (omega arith, (omega arith, tt))))

octet_within : (place : Option (Direction × ℕ)) → AreWithin 6 (octet_members place)
octet_within None = tt
octet_within (Some place) = (omega arith, (omega arith, tt))

pub recording_shallow : (number : ℕ) (name : List ℕ) (packet : ℕ) (place : Option (Direction × ℕ)) → depth (recording_json number name packet place) ≤ max_depth
recording_shallow number name packet place =
    shallow (codes "refused") (refusal_members (codes "recording") number name ++ (codes "packet", number_of packet) ∷ octet_members place)
    (omega arith, (omega arith, (omega arith, (omega arith, octet_within place))))
