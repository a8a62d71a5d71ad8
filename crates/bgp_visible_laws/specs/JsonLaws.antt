-- What the laws say of lines in JSON: none has a control character but the line feed at its end.
use Rattle.std.specs.Prelude.{ℕ, Bool, List, Option}
use Rattle.mrt.specs.declared.fault.CaptureFault.{CaptureFault}
use Rattle.bgp_prefix.specs.declared.session.Session.{Session}
use Rattle.bgp_wire.specs.Octets.{AreOctets}
use Rattle.bgp_wire.specs.declared.header.HeaderFaults.{HeaderFaults}
use Rattle.bgp_values.specs.declared.opens.Direction.{Direction}
use Rattle.bgp_import.specs.Refusals.{refusal_name, refusal_number, refusal_packet}
use Rattle.bgp_import.specs.declared.refusal.Refusal.{Refusal}
use Rattle.bgp_lines.specs.Form.{Before, PlacedRecord}
use Rattle.bgp_json.specs.Object.{json_line}
use Rattle.bgp_json.specs.Others.{capture_json, header_json, recording_json, rest_json}
use Rattle.bgp_json.specs.RecordJson.{IsFrameLine, IsPlacedLine}
use Rattle.bgp_json.specs.declared.place.Place.{Place}
use Rattle.bgp_visible_laws.specs.Laws.{HasOctets}
use Rattle.bgp_visible_laws.specs.Visible.{IsVisibleLine}

-- the line of a message of a stream
abbrev pub JsonFramesAreVisible : Type 0
JsonFramesAreVisible =
    (before : Before) (as2 : Bool) (direction : Direction) (offset : ℕ) (frame line : List ℕ)
    → AreOctets frame → IsFrameLine before as2 direction offset frame line → IsVisibleLine line

-- that of a record of a session
abbrev pub JsonRecordsAreVisible : Type 0
JsonRecordsAreVisible =
    (session : Session) (before : Before) (as2 : Bool) (number : ℕ) (placed : PlacedRecord)
    (line : List ℕ) → HasOctets placed.shown
    → IsPlacedLine session before as2 number placed line → IsVisibleLine line

-- that of a header with faults
abbrev pub JsonFaultsAreVisible : Type 0
JsonFaultsAreVisible =
    (place : Place) (faults : HeaderFaults) (header octets : List ℕ) → AreOctets octets
    → IsVisibleLine (json_line (header_json place faults header octets))

-- that of what a stream has behind its last whole message
abbrev pub JsonRestsAreVisible : Type 0
JsonRestsAreVisible =
    (offset : ℕ) (octets : List ℕ) → AreOctets octets
    → IsVisibleLine (json_line (rest_json offset octets))

-- that of a capture that is refused
abbrev pub JsonRefusalsAreVisible : Type 0
JsonRefusalsAreVisible = (fault : CaptureFault) → IsVisibleLine (json_line (capture_json fault))

-- and that of a recording that is refused, whichever octet of a stream it names
abbrev pub JsonRecordingsAreVisible : Type 0
JsonRecordingsAreVisible =
    (refusal : Refusal) (octet : Option (Direction × ℕ))
    → IsVisibleLine (json_line (recording_json (refusal_number refusal) (refusal_name refusal)
    (refusal_packet refusal) octet))
