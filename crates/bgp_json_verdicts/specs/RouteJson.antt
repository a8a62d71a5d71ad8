-- A route in JSON (RFC 4271, 5; 1997; 4360; 4456; 7911; 8092).
use Rattle.std.specs.Prelude.{◌++◌, ℕ, Bool, true, List, [], ◌∷◌, Option, None, Some, codes}
use Rattle.std.specs.Prelude.{if◌then◌else◌}
use Rattle.json.specs.Json.{Json, array, boolean, string}
use Rattle.bgp_prefix.specs.declared.address.Address.TheVariants.{V4}
use Rattle.bgp_path.specs.AsPath.{PathSegment}
use Rattle.bgp_path.specs.LargeCommunities.{large_community_text}
use Rattle.bgp_path.specs.Path.{PathValue}
use Rattle.bgp_path.specs.declared.as_path.SegmentKind.{SegmentKind}
use Rattle.bgp_path.specs.declared.as_path.SegmentKind.TheVariants.{Set, Sequence}
use Rattle.bgp_path.specs.declared.large_community.LargeCommunity.{LargeCommunity}
use Rattle.bgp_path.specs.declared.path.Aggregator.{Aggregator}
use Rattle.bgp_path.specs.declared.path.Origin.{Origin}
use Rattle.bgp_path.specs.declared.path.Origin.TheVariants as origins
use Rattle.bgp_update.specs.declared.destination.Destination.{Destination}
use Rattle.bgp_text.specs.RouteText.{community_text, extended_text}
use Rattle.bgp_json_values.specs.Objects.{array_of, in_array, number_of, object_of}
use Rattle.bgp_json_values.specs.RoutesJson.{destination_json, hop_json}
use Rattle.bgp_json_values.specs.Texts.{address_json}
use Rattle.bgp_json_verdicts.specs.At.{number_members}

-- a value under this key, if something is so
abbrev pub member_if : Bool → List ℕ → Json → List (List ℕ × Json)
member_if is_so name value = if is_so then (name, value) ∷ [] else []

-- values under this key, if there are some
abbrev pub list_members : {X : Type 0} → List ℕ → (X → Json) → List X → List (List ℕ × Json)
list_members name json [] = []
list_members name json (value ∷ values) = (name, array_of json (value ∷ values)) ∷ []

-- an IPv4 address
abbrev pub router_json : ℕ → Json
router_json number = address_json (V4 number)

abbrev pub router_members : List ℕ → Option ℕ → List (List ℕ × Json)
router_members name None = []
router_members name (Some number) = (name, router_json number) ∷ []

-- ---- AS paths

-- the numbers of a sequence, and those of a set as one value
abbrev pub kind_values : SegmentKind → List ℕ → List Json
kind_values Sequence [] = []
kind_values Sequence (number ∷ numbers) = number_of number ∷ kind_values Sequence numbers
kind_values Set numbers = array_of number_of numbers ∷ []

abbrev pub path_values : List PathSegment → List Json
path_values [] = []
path_values (segment ∷ segments) =
    kind_values segment.kind segment.numbers ++ path_values segments

-- ---- attributes

abbrev pub origin_text : Origin → List ℕ
origin_text origins.Igp = codes "IGP"
origin_text origins.Egp = codes "EGP"
origin_text origins.Incomplete = codes "INCOMPLETE"

abbrev pub aggregator_json : Aggregator → Json
aggregator_json a =
    object_of ((codes "as", number_of a.as_number)
    ∷ (codes "address", router_json a.address) ∷ [])

abbrev pub aggregator_members : Option Aggregator → List (List ℕ × Json)
aggregator_members None = []
aggregator_members (Some a) = (codes "aggregator", aggregator_json a) ∷ []

abbrev pub community_json : ℕ → Json
community_json value = string (community_text value)

abbrev pub extended_json : ℕ → Json
extended_json value = string (extended_text value)

abbrev pub large_json : LargeCommunity → Json
large_json value = string (large_community_text value)

-- what each route has: the next hop, the AS path and the origin
abbrev pub mandatory_members : PathValue → List (List ℕ × Json)
mandatory_members p =
    (codes "next_hop", hop_json p.next_hop)
    ∷ (codes "path", array (in_array (path_values p.as_path)))
    ∷ (codes "origin", string (origin_text p.origin)) ∷ []

-- numbers and truth values that a route may have
abbrev pub single_members : PathValue → List (List ℕ × Json)
single_members p =
    number_members (codes "med") p.multi_exit_disc
    ++ (number_members (codes "pref") p.local_pref
    ++ (member_if p.atomic_aggregate (codes "atomic") (boolean true)
    ++ aggregator_members p.aggregator))

-- lists that it may have
abbrev pub community_members : PathValue → List (List ℕ × Json)
community_members p =
    list_members (codes "communities") community_json p.communities
    ++ (list_members (codes "extended") extended_json p.extended_communities
    ++ list_members (codes "large") large_json p.large_communities)

-- what a route reflector adds (RFC 4456, 8)
abbrev pub reflection_members : PathValue → List (List ℕ × Json)
reflection_members p =
    router_members (codes "originator") p.originator_id
    ++ list_members (codes "clusters") router_json p.cluster_list

abbrev pub path_members : PathValue → List (List ℕ × Json)
path_members p =
    mandatory_members p
    ++ (single_members p ++ (community_members p ++ reflection_members p))

-- the prefix, and which of the paths to it
abbrev pub destination_members : Destination → List (List ℕ × Json)
destination_members destination =
    (codes "prefix", destination_json destination)
    ∷ number_members (codes "path_id") destination.path

abbrev pub route_members : Destination → PathValue → List (List ℕ × Json)
route_members destination p = destination_members destination ++ path_members p
