-- What an UPDATE changes where it is applied (RFC 4271, 3.1 and 9; RFC 7606, 2).
use Rattle.std.specs.Prelude.{◌≡◌, ◌⊎◌, ◌++◌, List, [], Option, None, Some, map}
use Rattle.std.specs.Prelude.{if◌then◌else◌}
use Rattle.bgp_open.specs.Family.TheVariants.{V4}
use Rattle.bgp_open.specs.declared.link.Link.{Link}
use Rattle.bgp_open.specs.Families.{contains}
use Rattle.bgp_attr.specs.NextHop.{NextHop}
use Rattle.bgp_attr.specs.declared.types.AttrType.TheVariants as types
use Rattle.bgp_attr.specs.Field.{Attribute}
use Rattle.bgp_attr.specs.Path.{PathValue}
use Rattle.bgp_attr.specs.First.{value_among}
use Rattle.bgp_attr.specs.PathFrom.{next_hop_from, path_from}
use Rattle.bgp_update.specs.declared.destination.Destination.{Destination}
use Rattle.bgp_update.specs.Found.{Found, side_of}
use Rattle.bgp_update.specs.Mp.{Mp, Absent, Cut, Other, Unused, Broken, Sound}
use Rattle.bgp_update.specs.WithdrawFaults.{HasWithdrawFault}

-- a route: a destination and its path
pub record Route : Type 0 where
  pub destination : Destination
  pub path : PathValue

-- first destinations are removed, and then routes put
pub record RouteChanges : Type 0 where
  pub remove : List Destination
  pub put : List Route

-- the routes of destinations that share a path
abbrev pub routes_with : PathValue → List Destination → List Route
routes_with path destinations =
    map (λ destination. record { destination = destination; path = path }) destinations

-- the destinations of a Withdrawn Routes or NLRI field, which are left out where IPv4 isn't in use
abbrev pub base_destinations : Link → Option (List Destination) → List Destination
base_destinations link None = []
base_destinations link (Some destinations) =
    if contains link.families V4 then destinations else []

-- those of an MP attribute, which takes no part where its family isn't in use or its contents are
-- wrong
abbrev pub mp_destinations : Mp → List Destination
mp_destinations Absent = []
mp_destinations Cut = []
mp_destinations Other = []
mp_destinations (Unused family) = []
mp_destinations (Broken family) = []
mp_destinations (Sound family contents) = contents.destinations

-- the next hop of MP_REACH_NLRI; where it has none, it has no destination either
abbrev pub hop_or : Option NextHop → NextHop
hop_or None = next_hop_from None
hop_or (Some hop) = hop

abbrev pub mp_hop : Mp → NextHop
mp_hop Absent = hop_or None
mp_hop Cut = hop_or None
mp_hop Other = hop_or None
mp_hop (Unused family) = hop_or None
mp_hop (Broken family) = hop_or None
mp_hop (Sound family contents) = hop_or contents.next_hop

-- what is withdrawn: the Withdrawn Routes field, and then MP_UNREACH_NLRI
abbrev pub withdrawals : Link → Found → List Destination
withdrawals link x = base_destinations link x.withdrawn ++ mp_destinations x.unreach.state

-- the path that the attributes spell, with this next hop
abbrev pub path_with : Link → List Attribute → NextHop → PathValue
path_with link attributes hop =
    path_from (side_of link) (value_among (side_of link) attributes) hop

-- the next hop that NEXT_HOP names
abbrev pub base_hop : Link → List Attribute → NextHop
base_hop link attributes = next_hop_from (value_among (side_of link) attributes types.NextHop)

-- what is announced: the NLRI field with NEXT_HOP, and then MP_REACH_NLRI with its own next hop
abbrev pub announcements : Link → Found → List Attribute → List Route
announcements link x attributes =
    routes_with (path_with link attributes (base_hop link attributes))
    (base_destinations link x.nlri)
    ++ routes_with (path_with link attributes (mp_hop x.reach.state))
    (mp_destinations x.reach.state)

-- the destinations of routes
abbrev pub destinations_among : List Route → List Destination
destinations_among routes = map (λ route. route.destination) routes

-- with a withdraw-class fault all destinations are removed, those that are announced too
abbrev pub AreChanges : Found → List Destination → List Route → RouteChanges → Type 0
AreChanges x withdrawn announced changes =
    (HasWithdrawFault x
    × (changes ≡ record { remove = withdrawn ++ destinations_among announced; put = [] }))
    ⊎ ((¬ HasWithdrawFault x) × (changes ≡ record { remove = withdrawn; put = announced }))
