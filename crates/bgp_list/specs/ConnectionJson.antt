-- The object of a connection, and of what is refused in a recording.
use Rattle.std.specs.Prelude.{◌++◌, ℕ, List, [], ◌∷◌, None, codes}
use Rattle.json.specs.Json.{Json, string}
use Rattle.bgp_prefix.specs.declared.session.Session.{Session}
use Rattle.segments.specs.declared.found.Addresses.{Addresses}
use Rattle.streams.specs.declared.connection.Opening.{Opening}
use Rattle.bgp_import.specs.ListText.{other_side}
use Rattle.bgp_import.specs.Refusals.{refusal_name, refusal_number, refusal_packet}
use Rattle.bgp_import.specs.declared.refusal.Refusal.{Refusal}
use Rattle.bgp_json_values.specs.Objects.{array_of, number_of, object_of}
use Rattle.bgp_json_values.specs.Texts.{address_json}
use Rattle.bgp_json_values.specs.Times.{time_members}
use Rattle.bgp_json.specs.Object.{typed}
use Rattle.bgp_json.specs.Others.{recording_json}
use Rattle.bgp_ended.specs.Values.{OutlineValue}
use Rattle.bgp_list.specs.Connections.{as_of, endpoint_of}
use Rattle.bgp_list.specs.EndedJson.{end_members}
use Rattle.bgp_list.specs.JsonMembers.{endpoint_members, number_members, pair_members}

-- ---- a connection

-- both ends, whoever opened it first
abbrev pub ends_members : Session → Opening → List (List ℕ × Json)
ends_members session opening =
    endpoint_members (codes "from") (codes "from_port")
    (endpoint_of opening.opened_by session opening)
    ++ endpoint_members (codes "to") (codes "to_port")
    (endpoint_of (other_side opening.opened_by) session opening)

-- the time and the number of its first packet
abbrev pub first_members : Opening → List (List ℕ × Json)
first_members opening =
    time_members opening.second opening.micro ++ (codes "packet", number_of opening.packet) ∷ []

-- its number, its ends, and its first packet
abbrev pub opening_members : Session → Opening → List (List ℕ × Json)
opening_members session opening =
    (codes "connection", number_of opening.number)
    ∷ (ends_members session opening ++ first_members opening)

-- the AS numbers in the OPENs of both ends, whoever opened it first: of those that sent one
abbrev pub as_members : Opening → OutlineValue → List (List ℕ × Json)
as_members opening outline =
    number_members (codes "as") (as_of opening.opened_by outline)
    ++ number_members (codes "to_as") (as_of (other_side opening.opened_by) outline)

-- what is known of one that isn't refused: how many octets either end sent, whoever opened it
-- first, and how it ended
abbrev pub outlined_members : Session → Opening → OutlineValue → ℕ → ℕ → List (List ℕ × Json)
outlined_members session opening outline first second =
    as_members opening outline
    ++ (pair_members (codes "octets") first second ++ end_members session opening outline.ended)

abbrev pub connection_json : Session → Opening → OutlineValue → ℕ → ℕ → Json
connection_json session opening outline first second =
    typed (codes "connection") (opening_members session opening
    ++ outlined_members session opening outline first second)

-- ---- a refusal

-- its number, its name and its packet
abbrev pub refusal_json : Refusal → Json
refusal_json refusal =
    object_of ((codes "number", number_of (refusal_number refusal))
    ∷ (codes "name", string (refusal_name refusal))
    ∷ (codes "packet", number_of (refusal_packet refusal)) ∷ [])

abbrev pub refused_members : Refusal → List (List ℕ × Json)
refused_members refusal = (codes "refused", refusal_json refusal) ∷ []

-- a connection that is refused
abbrev pub refused_connection_json : Session → Opening → Refusal → Json
refused_connection_json session opening refusal =
    typed (codes "connection") (opening_members session opening ++ refused_members refusal)

-- two addresses
abbrev pub addresses_members : Addresses → List (List ℕ × Json)
addresses_members addresses =
    (codes "addresses", array_of address_json (addresses.from ∷ addresses.to ∷ [])) ∷ []

-- two addresses of whose connections none can be told
abbrev pub refused_between_json : Addresses → Refusal → Json
refused_between_json addresses refusal =
    typed (codes "session") (addresses_members addresses ++ refused_members refusal)

-- a recording that can't be read on
abbrev pub refused_json : Refusal → Json
refused_json refusal =
    recording_json (refusal_number refusal) (refusal_name refusal) (refusal_packet refusal) None
