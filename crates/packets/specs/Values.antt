-- What the reader's functions answer, as values.
use Rattle.std.specs.Prelude.{◌≤◌, List, ℕ, length}
use Rattle.packets.specs.Pcap as pcap
use Rattle.packets.specs.Pcapng as pcapng
use Rattle.packets.specs.declared.interface.Said.{Said}
use Rattle.packets.specs.declared.interface.Said.TheVariants as said
use Rattle.packets.specs.declared.headers.PacketHeader.{PacketHeader}
use Rattle.packets.specs.declared.headers.EnhancedHeader.{EnhancedHeader}

abbrev pub said_value : Said → pcapng.Said
said_value said.Last = pcapng.Last
said_value said.Faulty = pcapng.Faulty
said_value (said.Resolution resolution len) = pcapng.Resolution resolution len
said_value (said.Offset offset len) = pcapng.Offset offset len
said_value (said.Skips len) = pcapng.Skips len

-- what an option takes is there, and isn't nothing
abbrev pub IsWithin : pcapng.Said → List ℕ → Type 0
IsWithin pcapng.Last octets = Unit {0}
IsWithin pcapng.Faulty octets = Unit {0}
IsWithin (pcapng.Resolution resolution len) octets = (4 ≤ len) × (len ≤ length octets)
IsWithin (pcapng.Offset offset len) octets = (4 ≤ len) × (len ≤ length octets)
IsWithin (pcapng.Skips len) octets = (4 ≤ len) × (len ≤ length octets)

abbrev pub packet_value : PacketHeader → pcap.PacketHeader
packet_value header =
    record { second = header.second; micro = header.micro; kept = header.kept; wire = header.wire }

abbrev pub enhanced_value : EnhancedHeader → pcapng.EnhancedHeader
enhanced_value header = record {
  interface = header.interface;
  ticks = header.ticks;
  kept = header.kept;
  wire = header.wire;
}
