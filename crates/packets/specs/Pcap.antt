-- A file of the format pcap: a header, and then packets, each with a header of its own.
--
--  0       4       6       8             16           20          24
-- +-------+-------+-------+-------------+------------+-----------+
-- | magic | major | minor | not used    | most kept  | link type |
-- +-------+-------+-------+-------------+------------+-----------+
--
--  0         4          8      12     16
-- +---------+----------+------+------+-------------------------
-- | seconds | fraction | kept | wire | the octets that were kept
-- +---------+----------+------+------+-------------------------
--
-- The magic number is a1b2c3d4 where fractions are microseconds and a1b23c4d where they are
-- nanoseconds, and tells the order of octets. A fraction is below a second. The link type is the low
-- half of its number.
use Rattle.std.specs.Prelude.{ℕ, ◌+◌, ◌/◌, ◌%◌, ◌==◌, not, Bool, List, length, take, drop}
use Rattle.std.specs.Prelude.{nat_lt, Option, None, Some, if◌then◌else◌}
use Rattle.byteorder.specs.Endian.{big_number}
use Rattle.packets.specs.declared.order.Order.{Order}
use Rattle.packets.specs.declared.order.Order.TheVariants.{Big, Little}
use Rattle.packets.specs.declared.fault.FaultKind.TheVariants as kinds
use Rattle.packets.specs.declared.headers.Magic.{Magic}
use Rattle.packets.specs.declared.headers.Precision.{Precision}
use Rattle.packets.specs.declared.headers.Precision.TheVariants.{Microseconds, Nanoseconds}
use Rattle.packets.specs.Context.{Packets}
use Rattle.packets.specs.Judgement.{Judgement, End, Refused, Passed, Told}
use Rattle.packets.specs.Order.{number_in}
use Rattle.packets.specs.Packet.{Recorded}

-- what the magic number of a file that begins so tells, if it is of this format
abbrev pub magic_in : List ℕ → Option Magic
magic_in octets =
    if big_number 4 octets == 0xa1b2c3d4
    then Some (record { order = Big; precision = Microseconds })
    else (if big_number 4 octets == 0xa1b23c4d
    then Some (record { order = Big; precision = Nanoseconds })
    else (if big_number 4 octets == 0xd4c3b2a1
    then Some (record { order = Little; precision = Microseconds })
    else (if big_number 4 octets == 0x4d3cb2a1
    then Some (record { order = Little; precision = Nanoseconds }) else None)))

-- ---- the header

-- what stands in the 12 octets after the first 12
unfoldable pub link_type_in : Order → List ℕ → ℕ
link_type_in order rest = number_in order 4 (drop 8 rest) % 65536

-- the major version in the first 12
abbrev pub is_version_2 : Order → List ℕ → Bool
is_version_2 order head = number_in order 2 (drop 4 head) == 2

-- The header by its first 12 octets and the 12 after them: another major version than 2 is
-- refused.
abbrev pub file_header : Magic → List ℕ → List ℕ → Judgement
file_header magic head rest =
    if not (is_version_2 magic.order head) then Refused kinds.Format
    else Passed 24 (Packets magic (link_type_in magic.order rest))

abbrev pub pcap_start : Magic → List ℕ → Judgement
pcap_start magic octets =
    if nat_lt (length octets) 24 then Refused kinds.Truncated
    else file_header magic (take 12 octets) (take 12 (drop 12 octets))

-- ---- packets

-- The whole microseconds of a fraction. A number that isn't below a second is no fraction.
abbrev pub micro_in : Precision → ℕ → Option ℕ
micro_in Microseconds fraction = if nat_lt fraction 1000000 then Some fraction else None
micro_in Nanoseconds fraction =
    if nat_lt fraction 1000000000 then Some (fraction / 1000) else None

pub record PacketHeader : Type 0 where
  pub second : ℕ
  pub micro : Option ℕ
  pub kept : ℕ
  pub wire : ℕ

-- the header that these 16 octets are
unfoldable pub packet_header_in : Magic → List ℕ → PacketHeader
packet_header_in magic octets = record {
  second = number_in magic.order 4 octets;
  micro = micro_in magic.precision (number_in magic.order 4 (drop 4 octets));
  kept = number_in magic.order 4 (drop 8 octets);
  wire = number_in magic.order 4 (drop 12 octets);
}

-- the packet with this header and these octets
abbrev pub pcap_packet : ℕ → PacketHeader → List ℕ → Recorded
pcap_packet link_type header octets = record {
  second = header.second;
  micro = header.micro;
  link_type = link_type;
  octets = octets;
  wire_count = header.wire;
}

-- what stands there, by its header: `rest` is what is left after that
abbrev pub packet_by : ℕ → PacketHeader → List ℕ → Judgement
packet_by link_type header rest =
    if nat_lt 262144 header.kept then Refused kinds.TooLong
    else (if nat_lt (length rest) header.kept then Refused kinds.Truncated
    else Told (16 + header.kept) (pcap_packet link_type header (take header.kept rest)))

abbrev pub packet_at : Magic → ℕ → List ℕ → Judgement
packet_at magic link_type octets =
    if length octets == 0 then End
    else (if nat_lt (length octets) 16 then Refused kinds.Truncated
    else packet_by link_type (packet_header_in magic (take 16 octets)) (drop 16 octets))
