-- The object of a message (RFC 4271, 4). Its octets are in it if the rest of it doesn't say them.
use Rattle.std.specs.Prelude.{◌++◌, ◌&&◌, ℕ, Bool, List, [], ◌∷◌, bytes_eq, codes, drop}
use Rattle.std.specs.Prelude.{if◌then◌else◌, take}
use Rattle.byteorder.specs.Endian.{big_number}
use Rattle.json.specs.Json.{Json, string}
use Rattle.bgp_prefix.specs.declared.address.Address.TheVariants.{V4}
use Rattle.bgp_prefix.specs.declared.family.Family.TheVariants as families
use Rattle.bgp_wire.specs.Message.{body_of}
use Rattle.bgp_open.specs.Open.{OpenFields, parameters_of}
use Rattle.bgp_open.specs.OpenFault.{open_fault_number}
use Rattle.bgp_open.specs.Triplet.{Triplet, triplets_octets}
use Rattle.bgp_open.specs.Written.{parameters_with}
use Rattle.bgp_open.specs.declared.fault.OpenFault.{OpenFault}
use Rattle.bgp_update.specs.Destinations.{is_identified}
use Rattle.bgp_update.specs.Parts.{UpdateParts}
use Rattle.bgp_update.specs.declared.destination.Destination.{Destination}
use Rattle.bgp_text.specs.Message.{Message, open_message, malformed_open_message, update_message}
use Rattle.bgp_text.specs.Message.{malformed_update_message, notification_message}
use Rattle.bgp_text.specs.Message.{keepalive_message}
use Rattle.bgp_values.specs.ErrorData.{ErrorFields}
use Rattle.bgp_values.specs.declared.opens.Reading.{Reading}
use Rattle.bgp_lines.specs.MessageLine.{fields_of}
use Rattle.bgp_lines.specs.OpenLine.{open_fault_name}
use Rattle.bgp_json_values.specs.AttributeJson.{attributes_json}
use Rattle.bgp_json_values.specs.CapabilityJson.{capabilities_json}
use Rattle.bgp_json_values.specs.ErrorJson.{error_members}
use Rattle.bgp_json_values.specs.Objects.{number_of, object_of}
use Rattle.bgp_json_values.specs.Octets.{octets_members}
use Rattle.bgp_json_values.specs.RoutesJson.{destinations_json, path_ids_json}
use Rattle.bgp_json_values.specs.RoutesJson.{spelled_destinations}
use Rattle.bgp_json_values.specs.Texts.{address_json}
use Rattle.bgp_json.specs.Object.{typed}
use Rattle.bgp_json.specs.Place.{place_members}
use Rattle.bgp_json.specs.declared.place.Place.{Place}

-- the octets of a message, unless the other members spell them
abbrev pub octets_unless : Bool → List ℕ → List (List ℕ × Json)
octets_unless is_spelled octets = if is_spelled then [] else octets_members octets

-- ---- OPEN (4.2)

-- its AS number, hold time, identifier and capabilities
abbrev pub open_members : OpenFields → List (List ℕ × Json)
open_members fields =
    (codes "as", number_of fields.my_as) ∷ (codes "hold", number_of fields.hold)
    ∷ (codes "id", address_json (V4 fields.id))
    ∷ (codes "capabilities", capabilities_json fields.capabilities) ∷ []

-- its parameters are those with which its capabilities are written: one parameter with all of them,
-- and none where there are none
abbrev pub are_parameters_spelled : List Triplet → List ℕ → Bool
are_parameters_spelled capabilities parameters =
    bytes_eq (triplets_octets (parameters_with capabilities)) parameters

abbrev pub open_json : Place → OpenFields → List ℕ → Json
open_json place fields octets =
    typed (codes "open") (place_members place ++ (open_members fields
    ++ octets_unless (are_parameters_spelled fields.capabilities (parameters_of octets)) octets))

-- one whose form is wrong: its fault
abbrev pub malformed_open_members : OpenFault → List ℕ → List (List ℕ × Json)
malformed_open_members fault octets =
    (codes "fault", number_of (open_fault_number fault))
    ∷ (codes "name", string (open_fault_name fault)) ∷ octets_members octets

abbrev pub malformed_open_json : Place → OpenFault → List ℕ → Json
malformed_open_json place fault octets =
    typed (codes "malformed_open") (place_members place ++ malformed_open_members fault octets)

-- ---- UPDATE (4.3)

-- what is withdrawn, the attributes, and what is announced
abbrev pub said_members : Reading → UpdateParts → List (List ℕ × Json)
said_members reading parts =
    (codes "withdrawn", destinations_json parts.withdrawn)
    ∷ (codes "attributes", attributes_json reading parts.attributes)
    ∷ (codes "nlri", destinations_json parts.nlri) ∷ []

-- the path identifiers of its own two lists, if IPv4 routes are identified
abbrev pub paths_json : List Destination → List Destination → Json
paths_json withdrawn nlri =
    object_of ((codes "withdrawn", path_ids_json withdrawn)
    ∷ (codes "nlri", path_ids_json nlri) ∷ [])

abbrev pub paths_members : Bool → List Destination → List Destination → List (List ℕ × Json)
paths_members identified withdrawn nlri =
    if identified then (codes "paths", paths_json withdrawn nlri) ∷ [] else []

-- the field behind a length of two octets, and what stands behind the field
abbrev pub counted_field : List ℕ → List ℕ
counted_field octets = take (big_number 2 octets) (drop 2 octets)

abbrev pub behind_field : List ℕ → List ℕ
behind_field octets = drop (big_number 2 octets) (drop 2 octets)

-- its own two lists: behind the length of the first that list, and behind the length of the
-- attributes and these the other
abbrev pub withdrawn_field : List ℕ → List ℕ
withdrawn_field octets = counted_field (body_of octets)

abbrev pub nlri_field : List ℕ → List ℕ
nlri_field octets = behind_field (behind_field (body_of octets))

-- zeros stand behind the bits of each prefix in these lists
abbrev pub are_lists_spelled : List Destination → List Destination → List ℕ → Bool
are_lists_spelled withdrawn nlri octets =
    bytes_eq (spelled_destinations withdrawn) (withdrawn_field octets)
    && bytes_eq (spelled_destinations nlri) (nlri_field octets)

abbrev pub update_members : Reading → UpdateParts → List ℕ → List (List ℕ × Json)
update_members reading parts octets =
    said_members reading parts
    ++ (paths_members (is_identified reading.form families.V4) parts.withdrawn parts.nlri
    ++ octets_unless (are_lists_spelled parts.withdrawn parts.nlri octets) octets)

abbrev pub update_json : Reading → Place → UpdateParts → List ℕ → Json
update_json reading place parts octets =
    typed (codes "update") (place_members place ++ update_members reading parts octets)

-- one with a length, a list of destinations or the end of its attributes at fault
abbrev pub malformed_update_json : Place → List ℕ → Json
malformed_update_json place octets =
    typed (codes "malformed_update") (place_members place ++ octets_members octets)

-- ---- NOTIFICATION (4.5) and KEEPALIVE (4.4)

abbrev pub notification_json : Place → ErrorFields → Json
notification_json place e = typed (codes "notification") (place_members place ++ error_members e)

abbrev pub keepalive_json : Place → Json
keepalive_json place = typed (codes "keepalive") (place_members place)

-- ---- any message

-- what octets say that stand here, where UPDATEs are read so
abbrev pub message_json : Reading → Place → List ℕ → Message → Json
message_json reading place octets (open_message fields) = open_json place fields octets
message_json reading place octets (malformed_open_message fault) =
    malformed_open_json place fault octets
message_json reading place octets (update_message parts) = update_json reading place parts octets
message_json reading place octets malformed_update_message = malformed_update_json place octets
message_json reading place octets (notification_message code subcode detail) =
    notification_json place (fields_of code subcode detail)
message_json reading place octets keepalive_message = keepalive_json place
