-- The routes of a table in which a key may have room and no route yet.
use Rattle.std.specs.Prelude.{◌≡◌, List, [], ◌∷◌, Option, None, Some, All, IsSome}
use Rattle.std.specs.declared.cmp.Ordering.{Ordering}
use Rattle.std.specs.BTreeMap.{is_at}
use Rattle.std.specs.List.Sorted.{IsStrictlySortedBy}
use Rattle.std.specs.Map.{keys_of, lookup, update}
use Rattle.std.specs.Option.{option_flatten}
use Rattle.bgp_update.specs.declared.destination.Destination.{Destination}
use Rattle.bgp_rib.specs.DestinationOrder.{destination_cmp, destination_eq}

-- the entry, where there is a route
abbrev pub with_route : {K V : Type 0} → K → Option V → List (K × V) → List (K × V)
with_route key None routes = routes
with_route key (Some route) routes = (key, route) ∷ routes

-- the entries that have a route
abbrev pub routes_in : {K V : Type 0} → List (K × Option V) → List (K × V)
routes_in [] = []
routes_in (e ∷ entries) = with_route e.0 e.1 (routes_in entries)

-- the destinations ascend
abbrev pub AreInOrder : {V : Type 0} → List (Destination × V) → Type 0
AreInOrder entries = IsStrictlySortedBy destination_cmp (keys_of entries)

-- the key has room, and no route
abbrev pub HasRoom : {K V : Type 0} → (K → K → Ordering) → List (K × Option V) → K → Type 0
HasRoom cmp entries key = lookup (is_at (cmp key)) entries ≡ Some None

-- no key has room without a route
abbrev pub HasNoRoom : {K V : Type 0} → (K → K → Ordering) → List (K × Option V) → Type 0
HasNoRoom {K} cmp entries = (key : K) → HasRoom cmp entries key → ⊥

-- the route to a destination
abbrev pub route_to : {V : Type 0} → List (Destination × Option V) → Destination → Option V
route_to entries destination = option_flatten (lookup (is_at (destination_cmp destination)) entries)

-- what each destination leads to once writes are undone, the last one first: a log has what each
-- destination had before it was written
abbrev pub undone : {V : Type 0} → List (Destination × Option V) → (Destination → Option V)
    → Destination → Option V
undone [] routes = routes
undone (e ∷ log) routes = update destination_eq (undone log routes) e.0 e.1

-- undone, a log and entries lead where an older log and older entries do
abbrev pub LeadsBack : {V : Type 0} → List (Destination × Option V) → List (Destination × Option V)
    → List (Destination × Option V) → List (Destination × Option V) → Type 0
LeadsBack log entries old_log old_entries =
    (destination : Destination)
    → undone log (route_to entries) destination ≡ undone old_log (route_to old_entries) destination

-- each destination of a log has an entry
abbrev pub HasEach : {V : Type 0} → List (Destination × Option V) → List (Destination × Option V)
    → Type 0
HasEach log entries = All (λ e. IsSome (lookup (is_at (destination_cmp e.0)) entries)) log
