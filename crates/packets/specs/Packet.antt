-- A packet of a recording, as a value.
use Rattle.std.specs.Prelude.{ℕ, List, Option}
use Rattle.packets.specs.declared.packet.Packet.{Packet}

-- when it passed, in seconds since 1970, and the fraction in whole microseconds, if the file has
-- one; the type of the link; the octets that were kept; and how
-- many it had on the wire
pub record Recorded : Type 0 where
  pub second : ℕ
  pub micro : Option ℕ
  pub link_type : ℕ
  pub octets : List ℕ
  pub wire_count : ℕ

-- what a `Packet` is
abbrev pub recorded_of : Packet → Recorded
recorded_of packet = record {
  second = packet.second;
  micro = packet.micro;
  link_type = packet.link_type;
  octets = packet.octets.now;
  wire_count = packet.wire_count;
}
