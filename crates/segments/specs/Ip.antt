-- What a packet of IP carries (RFC 791, 3.1; RFC 8200, 3 and 4).
--
--  IPv4   0               2              4                6          8     9          10         12
--        +-------+-------+--------------+----------------+----------+-----+----------+----------
--        |   4   | words | total length | identification | fragment | TTL | protocol | checksum
--        +-------+-------+--------------+----------------+----------+-----+----------+----------
--         12               16                    20                     4 * words
--        +----------------+---------------------+----------------------+---------
--        | source address | destination address | options              | payload
--        +----------------+---------------------+----------------------+---------
--  IPv6   0               4                6             7            8        24            40
--        +-------+-------+----------------+-------------+------------+--------+-------------+---
--        |   6   | class | payload length | next header | hop limit  | source | destination | payload
--        +-------+-------+----------------+-------------+------------+--------+-------------+---
--
-- The low 14 bits of `fragment` are More Fragments and an offset of 13 bits. What stands behind the
-- total length or the payload length is the frame's padding.
use Rattle.std.specs.Prelude.{ℕ, zero, suc, ◌+◌, ◌-◌, ◌*◌, ◌/◌, ◌%◌, ◌==◌, ◌||◌, Bool, not}
use Rattle.std.specs.Prelude.{List, [], ◌∷◌, length, take, drop, slice_index, nat_lt}
use Rattle.std.specs.Prelude.{if◌then◌else◌}
use Rattle.byteorder.specs.Endian.{big_number}
use Rattle.bgp_prefix.specs.declared.address.Address.TheVariants.{V4, V6}
use Rattle.segments.specs.declared.found.Addresses.{Addresses}
use Rattle.segments.specs.Link.{is_of}

-- what is carried: something else than TCP, or too little to tell; a fragment of which a segment
-- may be part; the octets of a segment that were kept, and how many it had
pub data Payload : Type 0 where
  Other : Payload
  FragmentOf : Addresses → Payload
  Tcp : Addresses → List ℕ → ℕ → Payload

-- ---- IPv4

pub record Ipv4Header : Type 0 where
  pub header_len : ℕ
  pub total_len : ℕ
  pub is_fragment : Bool
  pub protocol : ℕ
  pub addresses : Addresses

-- More Fragments is set, or there is an offset
abbrev pub is_ipv4_fragment : ℕ → Bool
is_ipv4_fragment fragment = not (fragment % 0x4000 == 0)

-- the header without its options, in the first 20 octets
unfoldable pub ipv4_header_in : List ℕ → Ipv4Header
ipv4_header_in octets = record {
  header_len = 4 * (slice_index octets 0 % 16);
  total_len = big_number 2 (drop 2 octets);
  is_fragment = is_ipv4_fragment (big_number 2 (drop 6 octets));
  protocol = slice_index octets 9;
  addresses = record {
    from = V4 (big_number 4 (drop 12 octets));
    to = V4 (big_number 4 (drop 16 octets));
  };
}

-- the header is shorter than its fields, or not all there, or it isn't TCP that is carried
abbrev pub is_other_ipv4 : Ipv4Header → List ℕ → Bool
is_other_ipv4 header octets =
    nat_lt header.header_len 20
    || nat_lt (length (take header.total_len octets)) header.header_len
    || not (header.protocol == 6)

abbrev pub ipv4_payload_by : Ipv4Header → List ℕ → Payload
ipv4_payload_by header octets =
    if is_other_ipv4 header octets then Other
    else (if header.is_fragment then FragmentOf header.addresses
    else Tcp header.addresses (drop header.header_len (take header.total_len octets))
    (header.total_len - header.header_len))

abbrev pub ipv4_payload : List ℕ → Payload
ipv4_payload octets =
    if nat_lt (length octets) 20 then Other else ipv4_payload_by (ipv4_header_in octets) octets

-- ---- IPv6

pub record Ipv6Header : Type 0 where
  pub payload_len : ℕ
  pub next_header : ℕ
  pub addresses : Addresses

unfoldable pub ipv6_header_in : List ℕ → Ipv6Header
ipv6_header_in octets = record {
  payload_len = big_number 2 (drop 4 octets);
  next_header = slice_index octets 6;
  addresses = record {
    from = V6 (big_number 16 (drop 8 octets));
    to = V6 (big_number 16 (drop 24 octets));
  };
}

-- What a header of IPv6 behind the first one is: that of TCP; that of a fragment of which a segment
-- may be part; one that is passed over, of so many octets; another one, or too little of one to
-- tell.
pub data Extension : Type 0 where
  Transport : Extension
  Fragmented : Extension
  Passed : ℕ → Extension
  Unknown : Extension

-- 0 Hop-by-Hop Options, 43 Routing, 60 Destination Options: headers that tell their length
abbrev pub has_length : ℕ → Bool
has_length next_header = is_of next_header (0 ∷ 43 ∷ 60 ∷ [])

-- such a header has eight octets, and eight times as many as its second octet says (RFC 8200, 4.3)
abbrev pub extension_len : List ℕ → ℕ
extension_len octets = 8 + 8 * slice_index octets 1

-- more fragments come, or there is an offset (RFC 8200, 4.5): one bit, two reserved ones, 13 bits
abbrev pub is_ipv6_fragment : ℕ → Bool
is_ipv6_fragment fragment = (fragment % 2 == 1) || not (fragment / 8 == 0)

-- a segment may be part of a fragment of a packet whose next header is this
abbrev pub fragment_before : ℕ → Extension
fragment_before next_header =
    if is_of next_header (6 ∷ 0 ∷ 43 ∷ 60 ∷ []) then Fragmented else Unknown

abbrev pub passed_within : ℕ → List ℕ → Extension
passed_within len octets = if nat_lt (length octets) len then Unknown else Passed len

-- what a header of a fragment is
abbrev pub fragment_at : List ℕ → Extension
fragment_at octets =
    if is_ipv6_fragment (big_number 2 (drop 2 octets))
    then fragment_before (slice_index octets 0) else Passed 8

-- what a header of this type is that begins with these octets, which are eight at least
abbrev pub long_extension_at : ℕ → List ℕ → Extension
long_extension_at next_header octets =
    if has_length next_header then passed_within (extension_len octets) octets
    else (if next_header == 44 then fragment_at octets else Unknown)

-- the same of any octets
unfoldable pub extension_at : ℕ → List ℕ → Extension
extension_at next_header octets =
    if next_header == 6 then Transport
    else (if nat_lt (length octets) 8 then Unknown else long_extension_at next_header octets)

-- What stands behind the headers of IPv6, the first of which is of the type `next_header`; `count`
-- is how many octets there were on the wire. Each header takes eight octets at least, so no more
-- of them are passed over than there are octets.
unfoldable pub payload_behind : ℕ → Addresses → ℕ → List ℕ → ℕ → Payload
payload_behind zero addresses next_header octets count = Other
payload_behind (suc most) addresses next_header octets count =
    elim (extension_at next_header octets) [
      | Transport ↦ Tcp addresses octets count
      | Fragmented ↦ FragmentOf addresses
      | Passed len ↦ payload_behind most addresses (slice_index octets 0) (drop len octets)
          (count - len)
      | Unknown ↦ Other
    ]

-- what the octets behind the header carry, without the padding
abbrev pub ipv6_payload_by : Ipv6Header → List ℕ → Payload
ipv6_payload_by header octets =
    payload_behind (suc (length octets)) header.addresses header.next_header octets
    header.payload_len

abbrev pub ipv6_payload : List ℕ → Payload
ipv6_payload octets =
    if nat_lt (length octets) 40 then Other
    else ipv6_payload_by (ipv6_header_in octets)
    (take (ipv6_header_in octets).payload_len (drop 40 octets))

-- ---- either

-- the first half octet tells which
abbrev pub payload_in : List ℕ → Payload
payload_in octets =
    if slice_index octets 0 / 16 == 4 then ipv4_payload octets
    else (if slice_index octets 0 / 16 == 6 then ipv6_payload octets else Other)
