-- The numbers and names of the faults of a packet.
use Rattle.std.specs.Prelude.{ℕ, List, codes}
use Rattle.segments.specs.declared.fault.PacketFault.{PacketFault}
use Rattle.segments.specs.declared.fault.PacketFault.TheVariants as faults

abbrev pub fault_number : PacketFault → ℕ
fault_number (faults.Link link_type) = 6
fault_number faults.Fragment = 7
fault_number faults.Cut = 8

abbrev pub fault_name : PacketFault → List ℕ
fault_name (faults.Link link_type) = codes "Link"
fault_name faults.Fragment = codes "Fragment"
fault_name faults.Cut = codes "Cut"
