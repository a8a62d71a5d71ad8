-- What a packet of segments may be wrapped in, that isn't looked into: GRE (RFC 2784) and ERSPAN in
-- it, VXLAN (RFC 7348), MPLS (RFC 3032, RFC 4023), PPPoE (RFC 2516).
use Rattle.std.specs.Prelude.{ℕ, ◌==◌, List, [], ◌∷◌, length, take, drop, slice_index, nat_lt, ◌/◌}
use Rattle.std.specs.Prelude.{◌||◌, Option, None, Some, if◌then◌else◌}
use Rattle.byteorder.specs.Endian.{big_number}
use Rattle.segments.specs.Ip.{Ipv4Header, ipv4_header_in, Ipv6Header, ipv6_header_in}
use Rattle.segments.specs.Link.{Carried, carried_in, is_ip, is_of, link_layer}
use Rattle.segments.specs.declared.link.LinkLayer.{LinkLayer}
use Rattle.segments.specs.declared.wrapping.Wrapping.{Wrapping}
use Rattle.segments.specs.declared.wrapping.Wrapping.TheVariants as wrappings

-- GRE, whose protocol type stands at 2
abbrev pub gre_in : List ℕ → Wrapping
gre_in octets =
    if nat_lt (length octets) 4 then wrappings.Gre
    else (if is_of (big_number 2 (drop 2 octets)) (0x88be ∷ 0x22eb ∷ []) then wrappings.Erspan
    else wrappings.Gre)

-- VXLAN by the port that a datagram of UDP goes to, which stands at 2
abbrev pub vxlan_in : List ℕ → Option Wrapping
vxlan_in octets =
    if nat_lt (length octets) 4 then None
    else (if is_of (big_number 2 (drop 2 octets)) (4789 ∷ 8472 ∷ []) then Some wrappings.Vxlan
    else None)

-- by the protocol of IP
abbrev pub wrapping_by : ℕ → List ℕ → Option Wrapping
wrapping_by protocol octets =
    if protocol == 47 then Some (gre_in octets)
    else (if protocol == 137 then Some wrappings.Mpls
    else (if protocol == 17 then vxlan_in octets else None))

abbrev pub wrapping_by_ipv4 : Ipv4Header → List ℕ → Option Wrapping
wrapping_by_ipv4 header octets =
    if nat_lt header.header_len 20
    || nat_lt (length (take header.total_len octets)) header.header_len then None
    else wrapping_by header.protocol (drop header.header_len (take header.total_len octets))

abbrev pub wrapping_in_ipv4 : List ℕ → Option Wrapping
wrapping_in_ipv4 octets =
    if nat_lt (length octets) 20 then None else wrapping_by_ipv4 (ipv4_header_in octets) octets

-- the protocol of IPv6 is its first next header here
abbrev pub wrapping_by_ipv6 : Ipv6Header → List ℕ → Option Wrapping
wrapping_by_ipv6 header octets =
    wrapping_by header.next_header (take header.payload_len (drop 40 octets))

abbrev pub wrapping_in_ipv6 : List ℕ → Option Wrapping
wrapping_in_ipv6 octets =
    if nat_lt (length octets) 40 then None else wrapping_by_ipv6 (ipv6_header_in octets) octets

-- by the version, which the first half octet tells
abbrev pub wrapping_in_ip : List ℕ → Option Wrapping
wrapping_in_ip octets =
    if slice_index octets 0 / 16 == 4 then wrapping_in_ipv4 octets
    else (if slice_index octets 0 / 16 == 6 then wrapping_in_ipv6 octets else None)

abbrev pub wrapping_of_carried : Option Carried → Option Wrapping
wrapping_of_carried None = None
wrapping_of_carried (Some carried) =
    if is_of carried.ether_type (0x8847 ∷ 0x8848 ∷ []) then Some wrappings.Mpls
    else (if carried.ether_type == 0x8864 then Some wrappings.Pppoe
    else (if is_ip carried.ether_type then wrapping_in_ip carried.octets else None))

abbrev pub wrapping_on : Option LinkLayer → List ℕ → Option Wrapping
wrapping_on None octets = None
wrapping_on (Some layer) octets = wrapping_of_carried (carried_in layer octets)

-- what a packet is wrapped in that was recorded on a link of this type
abbrev pub wrapping_in : ℕ → List ℕ → Option Wrapping
wrapping_in link_type octets = wrapping_on (link_layer link_type) octets
