-- Where what an object tells of stands: at an offset of a stream, or in a record.
use Rattle.std.specs.Prelude.{◌++◌, ℕ, List, [], ◌∷◌, Option, None, Some, codes}
use Rattle.json.specs.Json.{Json, string}
use Rattle.bgp_values.specs.declared.opens.Direction.{Direction}
use Rattle.bgp_values.specs.declared.opens.Direction.TheVariants.{Received, Sent}
use Rattle.bgp_json_values.specs.Objects.{number_of}
use Rattle.bgp_json.specs.declared.place.Place.{Place}
use Rattle.bgp_json.specs.declared.place.Place.TheVariants.{InStream, InRecord}
use Rattle.bgp_json.specs.declared.place.RecordPlace.{RecordPlace}

-- the number of a packet, if it is known
abbrev pub packet_members : Option ℕ → List (List ℕ × Json)
packet_members None = []
packet_members (Some packet) = (codes "packet", number_of packet) ∷ []

-- a record: its number, its second, and the packet that shows it
abbrev pub record_members : RecordPlace → List (List ℕ × Json)
record_members place =
    (codes "record", number_of place.number) ∷ (codes "second", number_of place.second)
    ∷ packet_members place.packet

-- which way a message went
abbrev pub direction_text : Direction → List ℕ
direction_text Received = codes "received"
direction_text Sent = codes "sent"

abbrev pub direction_json : Direction → Json
direction_json direction = string (direction_text direction)

-- where a message stands
abbrev pub place_members : Place → List (List ℕ × Json)
place_members (InStream offset) = (codes "at", number_of offset) ∷ []
place_members (InRecord place direction) =
    record_members place ++ (codes "direction", direction_json direction) ∷ []
