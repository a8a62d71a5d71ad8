-- What the laws say of lines in words: none has a control character but the line feed at its end.
use Rattle.std.specs.Prelude.{⊤, ℕ, Bool, List}
use Rattle.bgp_prefix.specs.Shown.{ShownRecord, Received as In, Sent as Out, Changed}
use Rattle.bgp_prefix.specs.declared.session.Session.{Session}
use Rattle.bgp_wire.specs.Octets.{AreOctets}
use Rattle.bgp_wire.specs.declared.header.HeaderFaults.{HeaderFaults}
use Rattle.bgp_values.specs.declared.opens.Direction.{Direction}
use Rattle.bgp_lines.specs.Form.{Before, IsFrameLine, IsPlacedLine, PlacedRecord}
use Rattle.bgp_lines.specs.Form.{fault_line_in, rest_line_in}
use Rattle.bgp_lines.specs.declared.form.LineForm.TheVariants.{Names}
use Rattle.bgp_visible_laws.specs.Visible.{IsVisibleLine}

-- the line of a message of a stream
abbrev pub FrameLinesAreVisible : Type 0
FrameLinesAreVisible =
    (before : Before) (as2 : Bool) (direction : Direction) (frame line : List ℕ)
    → AreOctets frame → IsFrameLine (Names as2) before direction frame line → IsVisibleLine line

-- that of a header with faults
abbrev pub FaultLinesAreVisible : Type 0
FaultLinesAreVisible =
    (as2 : Bool) (offset : ℕ) (faults : HeaderFaults) (header : List ℕ)
    → AreOctets header → IsVisibleLine (fault_line_in (Names as2) offset faults header)

-- that of what a stream has behind its last whole message
abbrev pub RestLinesAreVisible : Type 0
RestLinesAreVisible =
    (as2 : Bool) (rest : List ℕ) → AreOctets rest → IsVisibleLine (rest_line_in (Names as2) rest)

-- what a record shows is octets
abbrev pub HasOctets : ShownRecord → Type 0
HasOctets (In second octets) = AreOctets octets
HasOctets (Out second octets) = AreOctets octets
HasOctets (Changed second old new) = ⊤

-- the line of a record of a session
abbrev pub RecordLinesAreVisible : Type 0
RecordLinesAreVisible =
    (session : Session) (before : Before) (as2 : Bool) (placed : PlacedRecord) (line : List ℕ)
    → HasOctets placed.shown → IsPlacedLine (Names as2) session before placed line
    → IsVisibleLine line
