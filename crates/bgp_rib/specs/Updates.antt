-- UPDATEs that are applied one after another (RFC 4271, 3.2 and 9; RFC 7606, 2).
use Rattle.std.specs.Prelude.{List, [], ◌∷◌, Option, flat_map}
use Rattle.bgp_update.specs.declared.destination.Destination.{Destination}
use Rattle.bgp_update.specs.DeclaredFamilies.{Families}
use Rattle.bgp_path.specs.Path.{PathValue}
use Rattle.bgp_update.specs.Allowed.{changes_value}
use Rattle.bgp_update.specs.Changes.{RouteChanges}
use Rattle.bgp_rib.specs.declared.updates.Applied.{Applied}
use Rattle.bgp_rib.specs.Rooms.{routes_in}
use Rattle.bgp_rib.specs.Routes.{Routes, entries_outside, routes_after, routes_without}

-- what one UPDATE asks for: its changes, and the families that are disabled then
pub record AppliedUpdate : Type 0 where
  pub changes : RouteChanges
  pub disabled : Families

abbrev pub applied_value : {X : Type 0} → Applied X → AppliedUpdate
applied_value a = record { changes = changes_value a.changes; disabled = a.disabled }

-- what it leaves
abbrev pub after_update : AppliedUpdate → Routes → Routes
after_update update routes = routes_without update.disabled (routes_after update.changes routes)

-- what UPDATEs leave, each applied to what the one before it left
abbrev pub after_updates : List AppliedUpdate → Routes → Routes
after_updates [] routes = routes
after_updates (update ∷ updates) routes = after_updates updates (after_update update routes)

-- the destinations that any of them removes
abbrev pub removed_by : List AppliedUpdate → List Destination
removed_by updates = flat_map (λ update. update.changes.remove) updates

-- the routes of a table, beside the families that are disabled
abbrev pub seen_in : Families → List (Destination × Option PathValue) → Routes
seen_in families entries = record { entries = routes_in entries; disabled = families }

-- the routes that a table has of the families that aren't disabled
abbrev pub enabled_in : Families → List (Destination × Option PathValue) → Routes
enabled_in families entries =
    record { entries = entries_outside families (routes_in entries); disabled = families }
