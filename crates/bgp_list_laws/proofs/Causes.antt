-- What is wrong, by the number of a refusal.
use Rattle.std.proofs.Common.{◌≡◌, ℕ, List, [], ◌∷◌, codes, get_or, refl}
use Rattle.std.specs.Fmt.{decimal, digits}
use Rattle.std.specs.Str.Parse.{digits_value}
use Rattle.mrt.specs.Fault as mrt
use Rattle.mrt.specs.declared.fault.FaultKind.{FaultKind as CaptureFaultKind}
use Rattle.mrt.specs.declared.fault.FaultKind.TheVariants as capture
use Rattle.packets.specs.declared.fault.FaultKind.{FaultKind}
use Rattle.packets.specs.declared.fault.FaultKind.TheVariants as kinds
use Rattle.segments.specs.declared.fault.PacketFault.{PacketFault}
use Rattle.segments.specs.declared.fault.PacketFault.TheVariants as packet_faults
use Rattle.streams.specs.declared.fault.Fault.{Fault}
use Rattle.streams.specs.declared.fault.Fault.TheVariants as faults
use Rattle.packets.specs.Fault as packets
use Rattle.bgp_import.specs.Refusals.{refusal_number}
use Rattle.bgp_import.specs.declared.refusal.Refusal.{Refusal}
use Rattle.bgp_import.specs.declared.refusal.Refusal.TheVariants as refusals
use Rattle.bgp_list.specs.Causes.{capture_cause, cause_text, connection_cause, file_cause, packet_cause}

-- ---- of a recording

abbrev recording_causes : List (List ℕ)
recording_causes =
    [] ∷ codes "neither pcap nor pcapng" ∷ codes "the file ends inside its own header" ∷ codes "a packet or a block is too long"
    ∷ codes "a block's lengths do not agree, or a packet has no time" ∷ codes "its time is before 1970 or after 2106"
    ∷ codes "a link of a type that is not read" ∷ codes "a fragment of an IP packet" ∷ codes "not all of the packet was recorded"
    ∷ codes "its time is before that of the packet before" ∷ codes "no such connection" ∷ codes "several connections"
    ∷ codes "a side whose SYN is not in the file" ∷ codes "one octet was sent with two values" ∷ codes "octets are missing before it"
    ∷ codes "octets after a RST" ∷ codes "a read failed" ∷ codes "out of memory" ∷ codes "a ROUTE-REFRESH" ∷ []

-- by the text of the number
abbrev pub cause_in : List ℕ → List ℕ
cause_in number = get_or recording_causes (digits_value 10 number) []

file_back : (kind : FaultKind) → cause_in (decimal (packets.fault_number kind)) ≡ file_cause kind
unfolding digits
file_back kinds.Format = refl
file_back kinds.Truncated = refl
file_back kinds.TooLong = refl
file_back kinds.Block = refl
file_back kinds.Time = refl
file_back kinds.Device = refl
file_back kinds.Memory = refl

packet_back : (fault : PacketFault) (number : ℕ) → cause_in (decimal (refusal_number (refusals.Packet fault number))) ≡ packet_cause fault
unfolding digits
packet_back (packet_faults.Link link_type) number = refl
packet_back packet_faults.Fragment number = refl
packet_back packet_faults.Cut number = refl

connection_back : (fault : Fault) → cause_in (decimal (refusal_number (refusals.Connection fault))) ≡ connection_cause fault
unfolding digits
connection_back (faults.Cut number) = refl
connection_back (faults.TimeBack number) = refl
connection_back (faults.NoConnection number) = refl
connection_back (faults.Several number) = refl
connection_back (faults.NoStart number) = refl
connection_back (faults.Conflict number from place) = refl
connection_back (faults.Missing number from place) = refl
connection_back (faults.AfterReset number from place) = refl

pub cause_back : (refusal : Refusal) → cause_in (decimal (refusal_number refusal)) ≡ cause_text refusal
unfolding digits
cause_back (refusals.File fault) = file_back fault.kind
cause_back (refusals.Packet fault number) = packet_back fault number
cause_back (refusals.Connection fault) = connection_back fault
cause_back (refusals.Memory number) = refl
cause_back (refusals.RouteRefresh number from place) = refl

-- ---- of a capture

abbrev capture_causes : List (List ℕ)
capture_causes =
    [] ∷ codes "the file ends inside a record" ∷ codes "a record's body is too long" ∷ codes "a record's body lacks its fields"
    ∷ codes "a state that RFC 6396 does not have" ∷ codes "not one whole message" ∷ codes "its time is before that of the record before"
    ∷ codes "a ROUTE-REFRESH" ∷ codes "ADD-PATH (RFC 8050), which is not read" ∷ codes "a read failed" ∷ codes "out of memory" ∷ []

abbrev pub capture_cause_in : List ℕ → List ℕ
capture_cause_in number = get_or capture_causes (digits_value 10 number) []

pub capture_cause_back : (kind : CaptureFaultKind) → capture_cause_in (decimal (mrt.fault_number kind)) ≡ capture_cause kind
unfolding digits
capture_cause_back capture.Truncated = refl
capture_cause_back capture.TooLong = refl
capture_cause_back capture.Body = refl
capture_cause_back capture.BadState = refl
capture_cause_back capture.NotAMessage = refl
capture_cause_back capture.TimeBack = refl
capture_cause_back capture.RouteRefresh = refl
capture_cause_back capture.AddPath = refl
capture_cause_back capture.Device = refl
capture_cause_back capture.Memory = refl
