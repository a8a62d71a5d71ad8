-- What is no message: a header with faults, a rest, a change of state, a refusal.
use Rattle.std.specs.Prelude.{◌++◌, ℕ, List, [], ◌∷◌, Option, None, Some, codes, length}
use Rattle.json.specs.Json.{Json, string}
use Rattle.mrt.specs.Fault.{fault_number, fault_name}
use Rattle.mrt.specs.declared.fault.CaptureFault.{CaptureFault}
use Rattle.bgp_wire.specs.declared.header.HeaderFaults.{HeaderFaults}
use Rattle.bgp_wire.specs.Header.{length_of, type_of}
use Rattle.bgp_json_values.specs.States.{state_name}
use Rattle.bgp_values.specs.declared.opens.Direction.{Direction}
use Rattle.bgp_lines.specs.Others.{fault_subcodes}
use Rattle.bgp_json_values.specs.ErrorJson.{error_name_json}
use Rattle.bgp_json_values.specs.Objects.{array_of, number_of, object_of}
use Rattle.bgp_json_values.specs.Octets.{octets_members}
use Rattle.bgp_json.specs.Object.{typed}
use Rattle.bgp_json.specs.Place.{direction_json, place_members, record_members}
use Rattle.bgp_json.specs.declared.place.Place.{Place}
use Rattle.bgp_json.specs.declared.place.RecordPlace.{RecordPlace}

-- a fault of a header, as the NOTIFICATION that answers it names it: code 1, a subcode and both
-- names
abbrev pub fault_json : ℕ → Json
fault_json subcode =
    object_of ((codes "code", number_of 1) ∷ (codes "subcode", number_of subcode)
    ∷ (codes "name", error_name_json 1 subcode) ∷ [])

-- a header's faults, what is in it, and octets
abbrev pub header_members : HeaderFaults → List ℕ → List ℕ → List (List ℕ × Json)
header_members faults header octets =
    (codes "faults", array_of fault_json (fault_subcodes faults))
    ∷ (codes "length", number_of (length_of header)) ∷ (codes "kind", number_of (type_of header))
    ∷ octets_members octets

-- a header with faults, which stands here
abbrev pub header_json : Place → HeaderFaults → List ℕ → List ℕ → Json
header_json place faults header octets =
    typed (codes "fault") (place_members place ++ header_members faults header octets)

-- what a stream has behind its last whole message, at this offset
abbrev pub rest_json : ℕ → List ℕ → Json
rest_json offset octets =
    typed (codes "rest") ((codes "at", number_of offset)
    ∷ (codes "count", number_of (length octets)) ∷ octets_members octets)

-- a change from one state to another
abbrev pub change_members : ℕ → ℕ → List (List ℕ × Json)
change_members old new =
    (codes "old", string (state_name old)) ∷ (codes "new", string (state_name new)) ∷ []

abbrev pub change_json : RecordPlace → ℕ → ℕ → Json
change_json place old new =
    typed (codes "change") (record_members place ++ change_members old new)

-- what is refused: its number and its name
abbrev pub refusal_members : List ℕ → ℕ → List ℕ → List (List ℕ × Json)
refusal_members what number name =
    (codes "what", string what) ∷ (codes "number", number_of number) ∷ (codes "name", string name)
    ∷ []

-- a capture that is refused, and where
abbrev pub capture_json : CaptureFault → Json
capture_json fault =
    typed (codes "refused")
    (refusal_members (codes "capture") (fault_number fault.kind) (fault_name fault.kind)
    ++ (codes "at", number_of fault.offset) ∷ [])

-- an octet of one of a connection's streams, if a refusal names one
abbrev pub octet_members : Option (Direction × ℕ) → List (List ℕ × Json)
octet_members None = []
octet_members (Some place) =
    (codes "direction", direction_json place.0) ∷ (codes "octet", number_of place.1) ∷ []

-- a recording that is refused, and at which packet
abbrev pub recording_json : ℕ → List ℕ → ℕ → Option (Direction × ℕ) → Json
recording_json number name packet place =
    typed (codes "refused") (refusal_members (codes "recording") number name
    ++ (codes "packet", number_of packet) ∷ octet_members place)
