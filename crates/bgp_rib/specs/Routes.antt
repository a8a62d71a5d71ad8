-- The routes that a peer has announced, its Adj-RIB-In (RFC 4271, 3.2): a map from destinations to
-- paths.
use Rattle.std.specs.Prelude.{true, false, not, List, [], Option, All, IsFalse}
use Rattle.std.specs.Prelude.{filter, fold, map}
use Rattle.std.specs.BTreeMap.{insert_entry, is_at}
use Rattle.std.specs.List.Sorted.{IsStrictlySortedBy}
use Rattle.std.specs.Map.{keys_of, lookup}
use Rattle.std.specs.Set.{is_member}
use Rattle.bgp_prefix.specs.declared.family.Family.{Family}
use Rattle.bgp_prefix.specs.declared.family.Family.TheVariants.{V4, V6}
use Rattle.bgp_update.specs.declared.destination.Destination.{Destination}
use Rattle.bgp_rib.specs.DestinationOrder.{destination_cmp, destination_eq}
use Rattle.bgp_update.specs.DeclaredFamilies.{Families}
use Rattle.bgp_update.specs.Families.{contains, no_families, union}
use Rattle.bgp_path.specs.Path.{PathValue}
use Rattle.bgp_update.specs.Changes.{Route, RouteChanges}

-- the entries of the map, in the order of the destinations, and the families that are disabled
pub record Routes : Type 0 where
  pub entries : List (Destination × PathValue)
  pub disabled : Families

-- the map: the path of the route to a destination, if there is one
abbrev pub path_to : Routes → Destination → Option PathValue
path_to routes destination = lookup (is_at (destination_cmp destination)) routes.entries

-- no route, and nothing disabled
abbrev pub no_routes : Routes
no_routes = record { entries = []; disabled = no_families }

-- the entries whose destination isn't among these
abbrev pub entries_without : {V : Type 0} → List Destination → List (Destination × V)
    → List (Destination × V)
entries_without destinations entries =
    filter (λ e. not (is_member destination_eq destinations e.0)) entries

-- the entries whose family isn't in the set
abbrev pub entries_outside : {V : Type 0} → Families → List (Destination × V)
    → List (Destination × V)
entries_outside families entries = filter (λ e. not (contains families e.0.prefix.family)) entries

-- the map with these entries put, of which a later one takes an earlier one's place
abbrev pub entries_with : {V : Type 0} → List (Destination × V) → List (Destination × V)
    → List (Destination × V)
entries_with puts entries =
    fold (λ es put. insert_entry destination_cmp es put.0 put.1) entries puts

-- a route as an entry of the map
abbrev pub entry_of : Route → Destination × PathValue
entry_of route = (route.destination, route.path)

-- what changes leave: destinations are removed, and then routes put, none of a disabled family
unfoldable pub routes_after : RouteChanges → Routes → Routes
routes_after changes routes = record {
  entries = entries_with (entries_outside routes.disabled (map entry_of changes.put))
      (entries_without changes.remove routes.entries);
  disabled = routes.disabled;
}

-- the family alone
abbrev pub only : Family → Families
only V4 = record { v4 = true; v6 = false }
only V6 = record { v4 = false; v6 = true }

-- what is left where these families are disabled (RFC 7606, 2): they lose their routes
unfoldable pub routes_without : Families → Routes → Routes
routes_without families routes = record {
  entries = entries_outside families routes.entries;
  disabled = union routes.disabled families;
}

-- no destination is of a family of the set
abbrev pub AreOutside : Families → List Destination → Type 0
AreOutside families destinations =
    All (λ d. IsFalse (contains families d.prefix.family)) destinations

-- what all incoming routes are: the destinations ascend, and none is of a disabled family
pub record AreRoutes (routes : Routes) : Type 0 where
  pub ordered : IsStrictlySortedBy destination_cmp (keys_of routes.entries)
  pub enabled : AreOutside routes.disabled (keys_of routes.entries)
