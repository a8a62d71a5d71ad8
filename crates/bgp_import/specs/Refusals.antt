-- The numbers, names and packets of refusals, and the line that tells one.
use Rattle.std.specs.Prelude.{◌++◌, ℕ, List, [], Option, None, Some, codes}
use Rattle.std.specs.Fmt.{decimal}
use Rattle.packets.specs.Fault as file
use Rattle.packets.specs.declared.fault.FaultKind.{FaultKind}
use Rattle.packets.specs.declared.fault.FaultKind.TheVariants as kinds
use Rattle.segments.specs.Fault as packet
use Rattle.streams.specs.Fault as connection
use Rattle.streams.specs.declared.fault.Fault.{Fault}
use Rattle.streams.specs.declared.fault.Fault.TheVariants as faults
use Rattle.streams.specs.declared.passed.Side.{Side}
use Rattle.streams.specs.declared.passed.Side.TheVariants.{Local, Peer}
use Rattle.bgp_import.specs.declared.refusal.Cause.{Cause}
use Rattle.bgp_import.specs.declared.refusal.Cause.TheVariants as causes
use Rattle.bgp_import.specs.declared.refusal.Refusal.{Refusal}
use Rattle.bgp_import.specs.declared.refusal.Refusal.TheVariants as refusals
use Rattle.bgp_import.specs.declared.refusal.Place.{Place}

abbrev pub refusal_number : Refusal → ℕ
refusal_number (refusals.File fault) = file.fault_number fault.kind
refusal_number (refusals.Packet fault number) = packet.fault_number fault
refusal_number (refusals.Connection fault) = connection.fault_number fault
refusal_number (refusals.Memory number) = 17
refusal_number (refusals.RouteRefresh number from place) = 18

abbrev pub refusal_name : Refusal → List ℕ
refusal_name (refusals.File fault) = file.fault_name fault.kind
refusal_name (refusals.Packet fault number) = packet.fault_name fault
refusal_name (refusals.Connection fault) = connection.fault_name fault
refusal_name (refusals.Memory number) = codes "Memory"
refusal_name (refusals.RouteRefresh number from place) = codes "RouteRefresh"

-- the number of the packet at which it is told
abbrev pub refusal_packet : Refusal → ℕ
refusal_packet (refusals.File fault) = fault.packet
refusal_packet (refusals.Packet fault number) = number
refusal_packet (refusals.Connection fault) = connection.packet_of fault
refusal_packet (refusals.Memory number) = number
refusal_packet (refusals.RouteRefresh number from place) = number

-- what it is for
abbrev pub file_cause : FaultKind → Cause
file_cause kinds.Format = causes.Recording
file_cause kinds.Truncated = causes.Recording
file_cause kinds.TooLong = causes.Recording
file_cause kinds.Block = causes.Recording
file_cause kinds.Time = causes.Recording
file_cause kinds.Device = causes.Device
file_cause kinds.Memory = causes.Memory

abbrev pub cause_of : Refusal → Cause
cause_of (refusals.File fault) = file_cause fault.kind
cause_of (refusals.Packet fault number) = causes.Recording
cause_of (refusals.Connection fault) = causes.Recording
cause_of (refusals.Memory number) = causes.Memory
cause_of (refusals.RouteRefresh number from place) = causes.Recording

-- the octet that a refusal of a connection names
abbrev pub place_in : Fault → Option Place
place_in (faults.Cut number) = None
place_in (faults.TimeBack number) = None
place_in (faults.NoConnection number) = None
place_in (faults.Several number) = None
place_in (faults.NoStart number) = None
place_in (faults.Conflict number from place) = Some (record { from = from; octet = place })
place_in (faults.Missing number from place) = Some (record { from = from; octet = place })
place_in (faults.AfterReset number from place) = Some (record { from = from; octet = place })

abbrev pub refusal_place : Refusal → Option Place
refusal_place (refusals.File fault) = None
refusal_place (refusals.Packet fault number) = None
refusal_place (refusals.Connection fault) = place_in fault
refusal_place (refusals.Memory number) = None
refusal_place (refusals.RouteRefresh number from place) =
    Some (record { from = from; octet = place })

-- ---- its text

-- what the local system does with a stream that this system sends
abbrev pub direction_text : Side → List ℕ
direction_text Local = codes "sent"
direction_text Peer = codes "received"

abbrev pub place_text : Option Place → List ℕ
place_text None = []
place_text (Some place) =
    codes " " ++ (direction_text place.from ++ (codes " octet " ++ decimal place.octet))

-- its number, its name and its packet
unfoldable pub reason_text : Refusal → List ℕ
reason_text refusal =
    decimal (refusal_number refusal) ++ (codes " " ++ (refusal_name refusal
    ++ (codes " at packet " ++ decimal (refusal_packet refusal))))

-- the line of a recording that is refused
unfoldable pub refusal_line : Refusal → List ℕ
refusal_line refusal =
    codes "recording refused: " ++ (reason_text refusal
    ++ (place_text (refusal_place refusal) ++ codes "\n"))
