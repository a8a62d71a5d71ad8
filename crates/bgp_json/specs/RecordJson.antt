-- The object of a frame of a stream and of a record: it may depend on the messages that came
-- before.
use Rattle.std.specs.Prelude.{◌≡◌, ◌⊎◌, ◌++◌, ◌+◌, ℕ, Bool, List, [], ◌∷◌, Option}
use Rattle.json.specs.Json.{Json}
use Rattle.bgp_prefix.specs.Shown.{ShownRecord, Received as In, Sent as Out, Changed}
use Rattle.bgp_prefix.specs.declared.session.Session.{Session}
use Rattle.bgp_wire.specs.Framing.{IsFrame, IsFaulty}
use Rattle.bgp_wire.specs.Header.{header_of, limit_with}
use Rattle.bgp_wire.specs.Verdict.{AreFaults}
use Rattle.bgp_wire.specs.declared.header.HeaderFaults.{HeaderFaults}
use Rattle.bgp_wire.specs.declared.header.Limit.{Limit}
use Rattle.bgp_text.specs.Message.{Message, Says}
use Rattle.bgp_values.specs.declared.opens.Direction.{Direction}
use Rattle.bgp_values.specs.declared.opens.Direction.TheVariants.{Received, Sent}
use Rattle.bgp_values.specs.declared.opens.Reading.{Reading}
use Rattle.bgp_lines.specs.Form.{Before, IsReadingAt, PlacedRecord, before_behind}
use Rattle.bgp_json.specs.MessageJson.{message_json}
use Rattle.bgp_json.specs.Object.{json_line}
use Rattle.bgp_json.specs.Others.{change_json, header_json}
use Rattle.bgp_json.specs.declared.place.Place.{Place}
use Rattle.bgp_json.specs.declared.place.Place.TheVariants.{InStream, InRecord}
use Rattle.bgp_json.specs.declared.place.RecordPlace.{RecordPlace}

-- what a frame says that stands here, where it is read so
abbrev pub IsFrameJson : Reading → Place → List ℕ → Json → Type 0
IsFrameJson reading place frame value =
    (message : Message) × Says reading.form frame message
    × (value ≡ message_json reading place frame message)

-- what a message's octets say, where it may be so long: a frame, or a header with faults
abbrev pub IsMessageJson : Reading → Limit → Place → List ℕ → Json → Type 0
IsMessageJson reading limit place octets value =
    (IsFrame limit octets × IsFrameJson reading place octets value)
    ⊎ (IsFaulty limit octets
    × ((faults : HeaderFaults) × AreFaults limit (header_of octets) faults
    × (value ≡ header_json place faults (header_of octets) octets)))

-- a message of the session that went this way
abbrev pub IsMessageJsonOf : Session → Before → Bool → RecordPlace → Direction → List ℕ → Json
    → Type 0
IsMessageJsonOf session before as2 place direction octets value =
    (reading : Reading) × IsReadingAt before as2 direction reading
    × IsMessageJson reading (limit_with session.extended) (InRecord place direction) octets value

-- the place of the record with this number
abbrev pub place_at : ℕ → ℕ → Option ℕ → RecordPlace
place_at number second packet = record { number = number; second = second; packet = packet }

-- what a record of the session shows, where it is the one with this number
abbrev pub IsShownJson : Session → Before → Bool → ℕ → Option ℕ → ShownRecord → Json → Type 0
IsShownJson session before as2 number packet (In second octets) value =
    IsMessageJsonOf session before as2 (place_at number second packet) Received octets value
IsShownJson session before as2 number packet (Out second octets) value =
    IsMessageJsonOf session before as2 (place_at number second packet) Sent octets value
IsShownJson session before as2 number packet (Changed second old new) value =
    value ≡ change_json (place_at number second packet) old new

-- ---- lines

-- the line of a frame of a stream, which stands at this offset
abbrev pub IsFrameLine : Before → Bool → Direction → ℕ → List ℕ → List ℕ → Type 0
IsFrameLine before as2 direction offset frame line =
    (reading : Reading) × IsReadingAt before as2 direction reading
    × ((value : Json) × IsFrameJson reading (InStream offset) frame value
    × (line ≡ json_line value))

-- the line of a record of the session, with its number
abbrev pub IsPlacedLine : Session → Before → Bool → ℕ → PlacedRecord → List ℕ → Type 0
IsPlacedLine session before as2 number placed line =
    (value : Json) × IsShownJson session before as2 number placed.packet placed.shown value
    × (line ≡ json_line value)

-- the lines of records, one after another, numbered on from this
abbrev pub ArePlacedLines : Session → Before → Bool → ℕ → List PlacedRecord → List ℕ → Type 0
ArePlacedLines session before as2 number [] text = text ≡ []
ArePlacedLines session before as2 number (placed ∷ records) text =
    (line rest : List ℕ) × IsPlacedLine session before as2 number placed line
    × ArePlacedLines session (before_behind placed.shown before) as2 (number + 1) records rest
    × (text ≡ line ++ rest)
