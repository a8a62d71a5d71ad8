-- A segment of TCP (RFC 9293, 3.1).
--
--  0             2                  4                 8                       12           13
-- +-------------+------------------+-----------------+-----------------------+------------+--------
-- | source port | destination port | sequence number | acknowledgment number | data offset| control
-- +-------------+------------------+-----------------+-----------------------+------------+--------
--  14       16         18               20        4 * data offset
-- +--------+----------+----------------+---------+-----
-- | window | checksum | urgent pointer | options | data
-- +--------+----------+----------------+---------+-----
--
-- The data offset is the high half of octet 12, in words of four octets. The lowest control bits
-- are, from the lowest on, FIN, SYN, RST, PSH, ACK.
use Rattle.std.specs.Prelude.{ℕ, ◌-◌, ◌*◌, ◌/◌, ◌%◌, ◌==◌, ◌||◌, ◌&&◌, not, Bool, List, []}
use Rattle.std.specs.Prelude.{length, drop, slice_index, nat_lt, Option, None, Some}
use Rattle.std.specs.Prelude.{if◌then◌else◌}
use Rattle.byteorder.specs.Endian.{big_number}
use Rattle.segments.specs.declared.found.Addresses.{Addresses}
use Rattle.segments.specs.declared.found.Ends.{Ends}
use Rattle.segments.specs.declared.found.Flags.{Flags}
use Rattle.segments.specs.Segment.{TcpSegment, Finding, Nothing, NoPorts, CutHeader, Whole}

-- both ends, by the ports in the first four octets
unfoldable pub ends_in : Addresses → List ℕ → Ends
ends_in addresses octets = record {
  from = record { address = addresses.from; port = big_number 2 octets };
  to = record { address = addresses.to; port = big_number 2 (drop 2 octets) };
}

pub record TcpHeader : Type 0 where
  pub sequence : ℕ
  pub acknowledgment : ℕ
  pub header_len : ℕ
  pub control : ℕ

-- the header without its ports and options, in the first 20 octets
unfoldable pub tcp_header_in : List ℕ → TcpHeader
tcp_header_in octets = record {
  sequence = big_number 4 (drop 4 octets);
  acknowledgment = big_number 4 (drop 8 octets);
  header_len = 4 * (slice_index octets 12 / 16);
  control = slice_index octets 13;
}

-- the control bit of this value is set
abbrev pub is_set : ℕ → ℕ → Bool
is_set bit control = control / bit % 2 == 1

abbrev pub is_rst : TcpHeader → Bool
is_rst header = is_set 4 header.control

abbrev pub flags_of : TcpHeader → Flags
flags_of header = record {
  syn = is_set 2 header.control;
  fin = is_set 1 header.control && not (is_rst header);
  rst = is_rst header;
}

abbrev pub acknowledgment_of : TcpHeader → Option ℕ
acknowledgment_of header =
    if is_set 16 header.control then Some header.acknowledgment else None

-- a segment with RST has no data and no FIN, whatever it carries
abbrev pub segment_by : Ends → TcpHeader → List ℕ → ℕ → TcpSegment
segment_by ends header octets wire_count = record {
  ends = ends;
  sequence = header.sequence;
  flags = flags_of header;
  acknowledgment = acknowledgment_of header;
  octets = if is_rst header then [] else drop header.header_len octets;
  wire_count = if is_rst header then 0 else wire_count - header.header_len;
}

-- the header is shorter than its fields, or runs over what was on the wire
abbrev pub is_no_header : TcpHeader → ℕ → Bool
is_no_header header wire_count =
    nat_lt header.header_len 20 || nat_lt wire_count header.header_len

abbrev pub found_by : Ends → TcpHeader → List ℕ → ℕ → Finding
found_by ends header octets wire_count =
    if is_no_header header wire_count then Nothing
    else (if nat_lt (length octets) header.header_len then CutHeader ends
    else Whole (segment_by ends header octets wire_count))

-- what these octets are, that were kept of so many
abbrev pub found_of : Addresses → List ℕ → ℕ → Finding
found_of addresses octets wire_count =
    if nat_lt (length octets) 4 then NoPorts addresses
    else (if nat_lt wire_count 20 then Nothing
    else (if nat_lt (length octets) 20 then CutHeader (ends_in addresses octets)
    else found_by (ends_in addresses octets) (tcp_header_in octets) octets wire_count))
