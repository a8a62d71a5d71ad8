-- Where IP stands in a frame: the header of the link, by its type, and the tags of virtual networks
-- behind it. The numbers of link types are those of the registry LINKTYPE_.
--
--  Ethernet (1)         0             6         12          14
--                      +-------------+---------+-----------+---------------------------
--                      | destination | source  | EtherType | tags, and then the packet
--                      +-------------+---------+-----------+---------------------------
--  Linux cooked (113)   0                       14          16
--                      +-----------------------+-----------+---------------------------
--                      | kind and address      | EtherType | tags, and then the packet
--                      +-----------------------+-----------+---------------------------
--  Linux cooked (276)   0           2                       20
--                      +-----------+-----------------------+---------------------------
--                      | EtherType | kind and address      | tags, and then the packet
--                      +-----------+-----------------------+---------------------------
--
-- Loopback (0, 108): four octets of a family, and then the packet. Raw IP (101, and 12, 14, 228 and
-- 229): the packet.
use Rattle.std.specs.Prelude.{ℕ, ◌==◌, Bool, List, [], ◌∷◌, length, drop, nat_lt, if◌then◌else◌}
use Rattle.std.specs.Prelude.{Option, None, Some}
use Rattle.std.specs.List.{list_any}
use Rattle.byteorder.specs.Endian.{big_number}
use Rattle.segments.specs.declared.link.LinkLayer.{LinkLayer}
use Rattle.segments.specs.declared.link.LinkLayer.TheVariants as layers

-- the number is one of these
abbrev pub is_of : ℕ → List ℕ → Bool
is_of number numbers = list_any (λ n. number == n) numbers

-- the link of this type, if it is a known one
abbrev pub link_layer : ℕ → Option LinkLayer
link_layer link_type =
    if link_type == 1 then Some layers.Ethernet
    else (if link_type == 113 then Some layers.LinuxCooked
    else (if link_type == 276 then Some layers.LinuxCooked2
    else (if is_of link_type (0 ∷ 108 ∷ []) then Some layers.Loopback
    else (if is_of link_type (12 ∷ 14 ∷ 101 ∷ 228 ∷ 229 ∷ []) then Some layers.RawIp else None))))

-- the EtherType of a tag (IEEE 802.1Q): 8100, 88a8, and 9100 from before the standard
abbrev pub is_tag : ℕ → Bool
is_tag ether_type = is_of ether_type (0x8100 ∷ 0x88a8 ∷ 0x9100 ∷ [])

-- the EtherType of IPv4 or IPv6
abbrev pub is_ip : ℕ → Bool
is_ip ether_type = is_of ether_type (0x0800 ∷ 0x86dd ∷ [])

-- what stands in a frame behind its tags: its EtherType, and its octets
pub record Carried : Type 0 where
  pub ether_type : ℕ
  pub octets : List ℕ

abbrev pub carried : ℕ → List ℕ → Option Carried
carried ether_type octets = Some (record { ether_type = ether_type; octets = octets })

-- What stands behind an EtherType. A tag takes four octets, of which the last two are the EtherType
-- of what follows.
abbrev pub carried_behind : ℕ → List ℕ → Option Carried
carried_behind ether_type (a ∷ b ∷ c ∷ d ∷ octets) =
    if is_tag ether_type then carried_behind (big_number 2 (c ∷ d ∷ [])) octets
    else carried ether_type (a ∷ b ∷ c ∷ d ∷ octets)
carried_behind ether_type octets =
    if is_tag ether_type then None else carried ether_type octets

-- what a frame carries whose EtherType stands at a place in a header of so many octets
abbrev pub carried_at : ℕ → ℕ → List ℕ → Option Carried
carried_at place header_len octets =
    if nat_lt (length octets) header_len then None
    else carried_behind (big_number 2 (drop place octets)) (drop header_len octets)

-- What a frame carries. A frame without an EtherType has a packet of IP, of either version.
abbrev pub carried_in : LinkLayer → List ℕ → Option Carried
carried_in layers.Ethernet octets = carried_at 12 14 octets
carried_in layers.LinuxCooked octets = carried_at 14 16 octets
carried_in layers.LinuxCooked2 octets = carried_at 0 20 octets
carried_in layers.Loopback octets =
    if nat_lt (length octets) 4 then None else carried 0x0800 (drop 4 octets)
carried_in layers.RawIp octets = carried 0x0800 octets

-- the packet of IP among that, if it is one
abbrev pub ip_of : Option Carried → Option (List ℕ)
ip_of None = None
ip_of (Some carried) = if is_ip carried.ether_type then Some carried.octets else None

abbrev pub packet_in : LinkLayer → List ℕ → Option (List ℕ)
packet_in layer octets = ip_of (carried_in layer octets)
