-- The text of a route: its destination, and then what its path attributes say (RFC 4271, 5; 1997;
-- 4360; 4456; 8092), each behind a word.
use Rattle.std.specs.Prelude.{◌++◌, ℕ, ◌/◌, ◌%◌, List, [], ◌∷◌, if◌then◌else◌, map, codes, Option}
use Rattle.std.specs.Prelude.{None, Some}
use Rattle.std.specs.Fmt.{decimal}
use Rattle.std.specs.List.{flat_map, join_with_byte}
use Rattle.byteorder.specs.Endian.{big_bytes}
use Rattle.hex.specs.Hex.{encode_lower}
use Rattle.bgp_prefix.specs.Text.{address_text}
use Rattle.bgp_prefix.specs.declared.address.Address.TheVariants.{V4, V6}
use Rattle.bgp_path.specs.AsPath.{PathSegment}
use Rattle.bgp_path.specs.LargeCommunities.{large_community_text}
use Rattle.bgp_path.specs.Path.{PathValue}
use Rattle.bgp_path.specs.declared.as_path.SegmentKind.{SegmentKind}
use Rattle.bgp_path.specs.declared.as_path.SegmentKind.TheVariants.{Set, Sequence}
use Rattle.bgp_path.specs.declared.path.Aggregator.{Aggregator}
use Rattle.bgp_path.specs.declared.path.NextHop.{NextHop}
use Rattle.bgp_path.specs.declared.path.NextHop.TheVariants as hops
use Rattle.bgp_path.specs.declared.path.Origin.{Origin}
use Rattle.bgp_path.specs.declared.path.Origin.TheVariants.{Igp, Egp, Incomplete}
use Rattle.bgp_update.specs.declared.destination.Destination.{Destination}
use Rattle.bgp_text.specs.Text.{destination_text}

-- a next hop: one address, or two with a comma between them
unfoldable pub next_hop_text : NextHop → List ℕ
next_hop_text (hops.V4 number) = address_text (V4 number)
next_hop_text (hops.V6 number) = address_text (V6 number)
next_hop_text (hops.V6WithLinkLocal number local) =
    address_text (V6 number) ++ (codes "," ++ address_text (V6 local))

-- numbers in decimal with an octet between them
abbrev pub numbers_text : ℕ → List ℕ → List ℕ
numbers_text between numbers = join_with_byte between (map decimal numbers)

-- a segment: a sequence with blanks (octet 32), a set in braces with commas (octet 44)
abbrev pub kind_text : SegmentKind → List ℕ → List ℕ
kind_text Sequence numbers = numbers_text 32 numbers
kind_text Set numbers = codes "{" ++ (numbers_text 44 numbers ++ codes "}")

unfoldable pub segment_text : PathSegment → List ℕ
segment_text s = kind_text s.kind s.numbers

-- an AS path: its segments with blanks between them; a dash for none
unfoldable pub as_path_text : List PathSegment → List ℕ
as_path_text [] = codes "-"
as_path_text (s ∷ segments) = join_with_byte 32 (map segment_text (s ∷ segments))

-- the number of ORIGIN
abbrev pub origin_number : Origin → ℕ
origin_number Igp = 0
origin_number Egp = 1
origin_number Incomplete = 2

-- a word and a number, where there is one
unfoldable pub number_text : List ℕ → Option ℕ → List ℕ
number_text word None = []
number_text word (Some number) = word ++ decimal number

-- a word and an IPv4 address, where there is one
unfoldable pub router_text : List ℕ → Option ℕ → List ℕ
router_text word None = []
router_text word (Some number) = word ++ address_text (V4 number)

-- the AS number and the address of an aggregator, where there is one
unfoldable pub aggregator_text : Option Aggregator → List ℕ
aggregator_text None = []
aggregator_text (Some a) =
    codes " aggregator " ++ (decimal a.as_number ++ (codes " " ++ address_text (V4 a.address)))

-- a word and values, each behind a blank, where there are some
unfoldable pub list_text : {X : Type 0} → List ℕ → (X → List ℕ) → List X → List ℕ
list_text word text [] = []
list_text word text (value ∷ values) = word ++ flat_map (λ v. 32 ∷ text v) (value ∷ values)

-- a community: its two halves in decimal (RFC 1997)
abbrev pub community_text : ℕ → List ℕ
community_text value = decimal (value / 65536) ++ (58 ∷ decimal (value % 65536))

-- an extended community: its eight octets in hexadecimal (RFC 4360, 2)
abbrev pub extended_text : ℕ → List ℕ
extended_text value = encode_lower (big_bytes 8 value)

-- a cluster of CLUSTER_LIST (RFC 4456, 8)
abbrev pub cluster_text : ℕ → List ℕ
cluster_text value = address_text (V4 value)

-- the attributes that a route may have
unfoldable pub optional_text : PathValue → List ℕ
optional_text p =
    number_text (codes " med ") p.multi_exit_disc
    ++ (number_text (codes " pref ") p.local_pref
    ++ ((if p.atomic_aggregate then codes " atomic" else [])
    ++ (aggregator_text p.aggregator
    ++ (list_text (codes " communities") community_text p.communities
    ++ (list_text (codes " extended") extended_text p.extended_communities
    ++ (list_text (codes " large") large_community_text p.large_communities
    ++ (router_text (codes " originator ") p.originator_id
    ++ list_text (codes " clusters") cluster_text p.cluster_list)))))))

-- a route: destination, next hop, AS path, origin, and then what else it has
unfoldable pub route_text : Destination → PathValue → List ℕ
route_text destination p =
    destination_text destination ++ (codes " via " ++ (next_hop_text p.next_hop
    ++ (codes " path " ++ (as_path_text p.as_path
    ++ (codes " origin " ++ (decimal (origin_number p.origin) ++ optional_text p))))))
