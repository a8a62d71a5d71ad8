-- The numbers, names and packets of the refusals.
use Rattle.std.specs.Prelude.{ℕ, List, codes}
use Rattle.streams.specs.declared.fault.Fault.{Fault}
use Rattle.streams.specs.declared.fault.Fault.TheVariants as faults

abbrev pub fault_number : Fault → ℕ
fault_number (faults.Cut packet) = 8
fault_number (faults.TimeBack packet) = 9
fault_number (faults.NoConnection packet) = 10
fault_number (faults.Several packet) = 11
fault_number (faults.NoStart packet) = 12
fault_number (faults.Conflict packet from place) = 13
fault_number (faults.Missing packet from place) = 14
fault_number (faults.AfterReset packet from place) = 15

abbrev pub fault_name : Fault → List ℕ
fault_name (faults.Cut packet) = codes "Cut"
fault_name (faults.TimeBack packet) = codes "TimeBack"
fault_name (faults.NoConnection packet) = codes "NoConnection"
fault_name (faults.Several packet) = codes "Several"
fault_name (faults.NoStart packet) = codes "NoStart"
fault_name (faults.Conflict packet from place) = codes "Conflict"
fault_name (faults.Missing packet from place) = codes "Missing"
fault_name (faults.AfterReset packet from place) = codes "AfterReset"

abbrev pub packet_of : Fault → ℕ
packet_of (faults.Cut packet) = packet
packet_of (faults.TimeBack packet) = packet
packet_of (faults.NoConnection packet) = packet
packet_of (faults.Several packet) = packet
packet_of (faults.NoStart packet) = packet
packet_of (faults.Conflict packet from place) = packet
packet_of (faults.Missing packet from place) = packet
packet_of (faults.AfterReset packet from place) = packet
