-- What the laws of lines say: equal lines are of equal octets.
use Rattle.std.specs.Prelude.{◌≡◌, ◌<◌, ◌+◌, ◌^◌, ⊤, ℕ, Bool, List, Option, None, Some, All}
use Rattle.std.specs.Prelude.{length, map}
use Rattle.bgp_prefix.specs.Shown.{ShownRecord, Received, Sent, Changed}
use Rattle.bgp_prefix.specs.declared.session.Session.{Session}
use Rattle.bgp_wire.specs.Octets.{AreOctets}
use Rattle.bgp_values.specs.declared.opens.Direction.{Direction}
use Rattle.bgp_lines.specs.Form.{Before, PlacedRecord}
use Rattle.bgp_json.specs.RecordJson.{ArePlacedLines, IsFrameLine, IsPlacedLine}
use Rattle.bgp_json.specs.declared.place.Place.{Place}
use Rattle.bgp_json.specs.declared.place.Place.TheVariants.{InStream, InRecord}

-- numbers of places have 64 bits
abbrev pub IsPacket : Option ℕ → Type 0
IsPacket None = ⊤
IsPacket (Some packet) = packet < 2 ^ 64

abbrev pub IsPlace : Place → Type 0
IsPlace (InStream offset) = offset < 2 ^ 64
IsPlace (InRecord place direction) =
    (place.number < 2 ^ 64) × (place.second < 2 ^ 64) × IsPacket place.packet

-- and so have those of a record
abbrev pub IsShown : ShownRecord → Type 0
IsShown (Received second octets) = (second < 2 ^ 64) × AreOctets octets
IsShown (Sent second octets) = (second < 2 ^ 64) × AreOctets octets
IsShown (Changed second old new) = (second < 2 ^ 64) × (old < 2 ^ 64) × (new < 2 ^ 64)

pub record IsPlacedRecord (placed : PlacedRecord) : Type 0 where
  pub shown : IsShown placed.shown
  pub packet : IsPacket placed.packet

-- what records show
abbrev pub shown_in : List PlacedRecord → List ShownRecord
shown_in records = map (λ placed. placed.shown) records

-- frames of streams with one line are the same, and so are records
abbrev pub FrameLinesDiffer : Type 0
FrameLinesDiffer =
    (before earlier : Before) (as2 also : Bool) (direction other : Direction) (offset place : ℕ)
    (frame another line : List ℕ) → offset < 2 ^ 64 → place < 2 ^ 64
    → AreOctets frame → AreOctets another
    → IsFrameLine before as2 direction offset frame line
    → IsFrameLine earlier also other place another line → frame ≡ another

abbrev pub RecordLinesDiffer : Type 0
RecordLinesDiffer =
    (session another : Session) (before earlier : Before) (as2 also : Bool) (number place : ℕ)
    (placed other : PlacedRecord) (line : List ℕ) → number < 2 ^ 64 → place < 2 ^ 64
    → IsPlacedRecord placed → IsPlacedRecord other
    → IsPlacedLine session before as2 number placed line
    → IsPlacedLine another earlier also place other line → placed.shown ≡ other.shown

-- records whose lines are one text, numbered on from these numbers, are the same
abbrev pub RecordTextsDiffer : Type 0
RecordTextsDiffer =
    (session another : Session) (before earlier : Before) (as2 also : Bool) (number place : ℕ)
    (records others : List PlacedRecord) (text : List ℕ)
    → number + length records < 2 ^ 64 → place + length others < 2 ^ 64
    → All IsPlacedRecord records → All IsPlacedRecord others
    → ArePlacedLines session before as2 number records text
    → ArePlacedLines another earlier also place others text
    → shown_in records ≡ shown_in others
