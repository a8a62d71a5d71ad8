-- Lines in words have no control characters but the line feed at their end.
use Rattle.std.proofs.Common.{◌≡◌, ◌++◌, ℕ, Bool, List, Option, None, Some, codes, length, refl, subst, sym, inl, inr}
use Rattle.bgp_prefix.specs.Shown.{ShownRecord, Received as In, Sent as Out, Changed}
use Rattle.bgp_prefix.specs.declared.session.Session.{Session}
use Rattle.bgp_wire.specs.Header.{header_of, length_of, limit_with, type_of}
use Rattle.bgp_wire.specs.Octets.{AreOctets}
use Rattle.bgp_wire.specs.declared.header.HeaderFaults.{HeaderFaults}
use Rattle.bgp_wire.specs.declared.header.Limit.{Limit}
use Rattle.bgp_values.specs.declared.opens.Reading.{Reading}
use Rattle.bgp_lines.specs.Form.{Before, IsNamedFrame, IsNamedMessage, IsNamedRecord, packet_text, placed_text}
use Rattle.bgp_lines.specs.Others.{fault_subcodes, fault_text, faults_text, header_text, named_change, named_fault, named_rest, named_stream_fault}
use Rattle.bgp_visible_laws.specs.Laws.{FaultLinesAreVisible, FrameLinesAreVisible, HasOctets, RecordLinesAreVisible, RestLinesAreVisible}
use Rattle.bgp_visible_laws.specs.Visible.{IsVisible, IsVisibleLine}
use Rattle.bgp_visible_laws.proofs.Messages.{message_visible}
use Rattle.bgp_visible_laws.proofs.Texts.{decimal_visible, encoded_visible, state_visible, subcode_visible, type_visible}
use Rattle.bgp_visible_laws.proofs.Values.{joined_any}
use Rattle.bgp_visible_laws.proofs.Visible.{both, nothing, word}

line_of : (text line : List ℕ) → line ≡ text ++ codes "\n" → IsVisible text → IsVisibleLine line
line_of text line is visible = (text, is, visible)

-- ---- a header with faults, and a rest

fault_visible : (subcode : ℕ) → IsVisible (fault_text subcode)
fault_visible subcode = both (word (codes "1/") refl) (both (decimal_visible subcode) (both (word (codes " ") refl) (subcode_visible 1 subcode)))

faults_visible : (subcodes : List ℕ) → IsVisible (faults_text subcodes)
faults_visible subcodes = joined_any (codes ", ") fault_text (word (codes ", ") refl) fault_visible subcodes

header_visible : (header octets : List ℕ) → AreOctets octets → IsVisible (header_text header octets)
unfolding header_text
header_visible header octets are =
    both (word (codes ": type ") refl) (both (type_visible (type_of header)) (both (word (codes ", length ") refl) (both (decimal_visible (length_of header))
    (both (word (codes ", octets ") refl) (encoded_visible octets are)))))

fault_line_visible : (faults : HeaderFaults) (octets : List ℕ) → AreOctets octets → IsVisible (named_fault faults octets)
unfolding named_fault
fault_line_visible faults octets are =
    both (word (codes "fault ") refl) (both (faults_visible (fault_subcodes faults)) (header_visible (header_of octets) octets are))

stream_fault_visible : (offset : ℕ) (faults : HeaderFaults) (header : List ℕ) → AreOctets header → IsVisible (named_stream_fault offset faults header)
unfolding named_stream_fault
stream_fault_visible offset faults header are =
    both (word (codes "fault at ") refl) (both (decimal_visible offset) (both (word (codes " ") refl)
    (both (faults_visible (fault_subcodes faults)) (header_visible header header are))))

rest_visible : (octets : List ℕ) → AreOctets octets → IsVisible (named_rest octets)
unfolding named_rest
rest_visible octets are = both (word (codes "rest ") refl) (both (decimal_visible (length octets)) (both (word (codes ": ") refl) (encoded_visible octets are)))

change_visible : (old new : ℕ) → IsVisible (named_change old new)
unfolding named_change
change_visible old new = both (word (codes "change ") refl) (both (state_visible old) (both (word (codes " to ") refl) (state_visible new)))

-- ---- lines of streams

frame_visible : (reading : Reading) (frame text : List ℕ) → AreOctets frame → IsNamedFrame reading frame text → IsVisible text
frame_visible reading frame text are is = subst IsVisible (sym is.2) (message_visible reading frame is.0 are is.1)

pub frame_lines : FrameLinesAreVisible
frame_lines before as2 direction frame line are is =
    let named = is.2 in
    line_of named.0 line named.2 (frame_visible is.0 frame named.0 are named.1)

pub fault_lines : FaultLinesAreVisible
fault_lines as2 offset faults header are = line_of (named_stream_fault offset faults header) _ refl (stream_fault_visible offset faults header are)

pub rest_lines : RestLinesAreVisible
rest_lines as2 rest are = line_of (named_rest rest) _ refl (rest_visible rest are)

-- ---- lines of records

pub told_visible : (reading : Reading) (limit : Limit) (octets text : List ℕ) → AreOctets octets → IsNamedMessage reading limit octets text → IsVisible text
told_visible reading limit octets text are (inl message) = frame_visible reading octets text are message.1
told_visible reading limit octets text are (inr faulty) = subst IsVisible (sym faulty.1.2) (fault_line_visible faulty.1.0 octets are)

packet_visible : (packet : Option ℕ) → IsVisible (packet_text packet)
packet_visible None = nothing
packet_visible (Some packet) = both (word (codes " packet ") refl) (decimal_visible packet)

placed_visible : (second : ℕ) (packet : Option ℕ) (front text : List ℕ) → IsVisible front → IsVisible text → IsVisible (placed_text second packet front text)
unfolding placed_text
placed_visible second packet front text before visible =
    both (word (codes "@") refl) (both (decimal_visible second) (both (packet_visible packet) (both before visible)))

record_visible : (session : Session) (before : Before) (as2 : Bool) (packet : Option ℕ) (shown : ShownRecord) (text : List ℕ) → HasOctets shown
    → IsNamedRecord session before as2 packet shown text → IsVisible text
record_visible session before as2 packet (In second octets) text are is =
    subst IsVisible (sym is.2)
    (placed_visible second packet (codes " received ") is.0 (word (codes " received ") refl) (told_visible is.1.0 (limit_with session.extended) octets is.0 are is.1.2))
record_visible session before as2 packet (Out second octets) text are is =
    subst IsVisible (sym is.2)
    (placed_visible second packet (codes " sent ") is.0 (word (codes " sent ") refl) (told_visible is.1.0 (limit_with session.extended) octets is.0 are is.1.2))
record_visible session before as2 packet (Changed second old new) text are is =
    subst IsVisible (sym is) (placed_visible second packet (codes " ") (named_change old new) (word (codes " ") refl) (change_visible old new))

pub record_lines : RecordLinesAreVisible
record_lines session before as2 placed line are is =
    line_of is.0 line is.2 (record_visible session before as2 placed.packet placed.shown is.0 are is.1)
