-- Routes in JSON: lists of destinations, and the two attributes that have routes of other families
-- (RFC 4760, 3 and 4; RFC 7911, 3).
use Rattle.std.specs.Prelude.{◌++◌, ℕ, Bool, List, [], ◌∷◌, Option, None, Some, codes, flat_map}
use Rattle.std.specs.Prelude.{if◌then◌else◌, length}
use Rattle.byteorder.specs.Endian.{big_bytes}
use Rattle.json.specs.Json.{Json}
use Rattle.bgp_prefix.specs.declared.address.Address.{Address}
use Rattle.bgp_prefix.specs.declared.address.Address.TheVariants as addresses
use Rattle.bgp_prefix.specs.declared.family.Family.{Family}
use Rattle.bgp_prefix.specs.Prefix.{prefix_octets}
use Rattle.bgp_open.specs.Offer.{afi_of}
use Rattle.bgp_open.specs.declared.route_form.RouteForm.{RouteForm}
use Rattle.bgp_path.specs.declared.path.NextHop.{NextHop}
use Rattle.bgp_path.specs.declared.path.NextHop.TheVariants as hops
use Rattle.bgp_values.specs.Destinations.{is_identified}
use Rattle.bgp_values.specs.Destination.{Destination}
use Rattle.bgp_values.specs.RoutesValue.{RoutesValue, unicast, other}
use Rattle.bgp_json_values.specs.Objects.{array_of, number_of, object_of}
use Rattle.bgp_json_values.specs.Texts.{address_json, octets_json, prefix_json}
use Rattle.bgp_json_values.specs.ItemJson.{family_members}

-- ---- destinations

-- the prefix of a destination
abbrev pub destination_json : Destination → Json
destination_json destination = prefix_json destination.prefix

-- prefixes, without path identifiers
abbrev pub destinations_json : List Destination → Json
destinations_json destinations = array_of destination_json destinations

-- the path identifier of a destination, if it has one
abbrev pub id_in : Option ℕ → List ℕ
id_in None = []
id_in (Some id) = id ∷ []

abbrev pub ids_of : List Destination → List ℕ
ids_of destinations = flat_map (λ destination. id_in destination.path) destinations

-- path identifiers
abbrev pub path_ids_json : List Destination → Json
path_ids_json destinations = array_of number_of (ids_of destinations)

-- and these, if routes of their family are identified
abbrev pub path_ids_members : Bool → List Destination → List (List ℕ × Json)
path_ids_members identified destinations =
    if identified then (codes "paths", path_ids_json destinations) ∷ [] else []

-- the octets that a destination spells: those of its path identifier, and those of its prefix with
-- zeros behind it
abbrev pub spelled_id : Option ℕ → List ℕ
spelled_id None = []
spelled_id (Some id) = big_bytes 4 id

abbrev pub spelled_destination : Destination → List ℕ
spelled_destination destination =
    spelled_id destination.path ++ prefix_octets destination.prefix

abbrev pub spelled_destinations : List Destination → List ℕ
spelled_destinations destinations = flat_map spelled_destination destinations

-- ---- next hops

-- the addresses of a next hop
abbrev pub hop_addresses : NextHop → List Address
hop_addresses (hops.V4 address) = addresses.V4 address ∷ []
hop_addresses (hops.V6 address) = addresses.V6 address ∷ []
hop_addresses (hops.V6WithLinkLocal address link_local) =
    addresses.V6 address ∷ addresses.V6 link_local ∷ []

abbrev pub hop_json : NextHop → Json
hop_json hop = array_of address_json (hop_addresses hop)

abbrev pub hop_members : Option NextHop → List (List ℕ × Json)
hop_members None = []
hop_members (Some hop) = (codes "next_hop", hop_json hop) ∷ []

abbrev pub spelled_hop : NextHop → List ℕ
spelled_hop (hops.V4 address) = big_bytes 4 address
spelled_hop (hops.V6 address) = big_bytes 16 address
spelled_hop (hops.V6WithLinkLocal address link_local) =
    big_bytes 16 address ++ big_bytes 16 link_local

-- ---- values

-- octets of another family
abbrev pub other_json : ℕ → ℕ → List ℕ → Json
other_json afi safi octets =
    object_of (family_members afi safi ++ (codes "rest", octets_json octets) ∷ [])

-- unicast routes: their family, the next hop if they are announced, and destinations by this key
abbrev pub unicast_json : List ℕ → Bool → Family → Option NextHop → List Destination → Json
unicast_json name identified family hop destinations =
    object_of (family_members (afi_of family) 1 ++ (hop_members hop
    ++ (name, destinations_json destinations) ∷ path_ids_members identified destinations))

-- of MP_REACH_NLRI (`nlri`) and MP_UNREACH_NLRI (`withdrawn`), if routes are spelled in this form
abbrev pub routes_json : List ℕ → RouteForm → RoutesValue → Json
routes_json name form (unicast family contents) =
    unicast_json name (is_identified form family) family contents.next_hop contents.destinations
routes_json name form (other afi safi octets) = other_json afi safi octets

-- ---- the octets that a value spells: what is reserved is 0

-- AFI 2, SAFI 1
abbrev pub spelled_numbers : ℕ → ℕ → List ℕ
spelled_numbers afi safi = big_bytes 2 afi ++ safi ∷ []

-- the length of a next hop, the next hop, and a reserved octet
abbrev pub spelled_next_hop : Option NextHop → List ℕ
spelled_next_hop None = []
spelled_next_hop (Some hop) = length (spelled_hop hop) ∷ spelled_hop hop ++ 0 ∷ []

-- of MP_REACH_NLRI, and of MP_UNREACH_NLRI, which has no next hop
abbrev pub spelled_unicast : Family → Option NextHop → List Destination → List ℕ
spelled_unicast family hop destinations =
    spelled_numbers (afi_of family) 1 ++ (spelled_next_hop hop ++ spelled_destinations destinations)

abbrev pub spelled_other : ℕ → ℕ → List ℕ → List ℕ
spelled_other afi safi octets = spelled_numbers afi safi ++ octets

abbrev pub spelled_routes : RoutesValue → List ℕ
spelled_routes (unicast family contents) =
    spelled_unicast family contents.next_hop contents.destinations
spelled_routes (other afi safi octets) = spelled_other afi safi octets
