-- What is wrong with what is refused, in words: of a recording by the numbers 1 to 18, of a capture
-- by 1 to 10.
use Rattle.std.specs.Prelude.{ℕ, List, codes}
use Rattle.mrt.specs.declared.fault.FaultKind.{FaultKind as CaptureFaultKind}
use Rattle.mrt.specs.declared.fault.FaultKind.TheVariants as capture
use Rattle.packets.specs.declared.fault.FaultKind.{FaultKind}
use Rattle.packets.specs.declared.fault.FaultKind.TheVariants as kinds
use Rattle.segments.specs.declared.fault.PacketFault.{PacketFault}
use Rattle.segments.specs.declared.fault.PacketFault.TheVariants as packet_faults
use Rattle.streams.specs.declared.fault.Fault.{Fault}
use Rattle.streams.specs.declared.fault.Fault.TheVariants as faults
use Rattle.bgp_import.specs.declared.refusal.Refusal.{Refusal}
use Rattle.bgp_import.specs.declared.refusal.Refusal.TheVariants as refusals

-- ---- of a recording

abbrev pub file_cause : FaultKind → List ℕ
file_cause kinds.Format = codes "neither pcap nor pcapng"
file_cause kinds.Truncated = codes "the file ends inside its own header"
file_cause kinds.TooLong = codes "a packet or a block is too long"
file_cause kinds.Block = codes "a block's lengths do not agree, or a packet has no time"
file_cause kinds.Time = codes "its time is before 1970 or after 2106"
file_cause kinds.Device = codes "a read failed"
file_cause kinds.Memory = codes "out of memory"

abbrev pub packet_cause : PacketFault → List ℕ
packet_cause (packet_faults.Link link_type) = codes "a link of a type that is not read"
packet_cause packet_faults.Fragment = codes "a fragment of an IP packet"
packet_cause packet_faults.Cut = codes "not all of the packet was recorded"

abbrev pub connection_cause : Fault → List ℕ
connection_cause (faults.Cut number) = codes "not all of the packet was recorded"
connection_cause (faults.TimeBack number) =
    codes "its time is before that of the packet before"
connection_cause (faults.NoConnection number) = codes "no such connection"
connection_cause (faults.Several number) = codes "several connections"
connection_cause (faults.NoStart number) = codes "a side whose SYN is not in the file"
connection_cause (faults.Conflict number from place) =
    codes "one octet was sent with two values"
connection_cause (faults.Missing number from place) = codes "octets are missing before it"
connection_cause (faults.AfterReset number from place) = codes "octets after a RST"

abbrev pub cause_text : Refusal → List ℕ
cause_text (refusals.File fault) = file_cause fault.kind
cause_text (refusals.Packet fault number) = packet_cause fault
cause_text (refusals.Connection fault) = connection_cause fault
cause_text (refusals.Memory number) = codes "out of memory"
cause_text (refusals.RouteRefresh number from place) = codes "a ROUTE-REFRESH"

-- ---- of a capture

abbrev pub capture_cause : CaptureFaultKind → List ℕ
capture_cause capture.Truncated = codes "the file ends inside a record"
capture_cause capture.TooLong = codes "a record's body is too long"
capture_cause capture.Body = codes "a record's body lacks its fields"
capture_cause capture.BadState = codes "a state that RFC 6396 does not have"
capture_cause capture.NotAMessage = codes "not one whole message"
capture_cause capture.TimeBack = codes "its time is before that of the record before"
capture_cause capture.RouteRefresh = codes "a ROUTE-REFRESH"
capture_cause capture.AddPath = codes "ADD-PATH (RFC 8050), which is not read"
capture_cause capture.Device = codes "a read failed"
capture_cause capture.Memory = codes "out of memory"
