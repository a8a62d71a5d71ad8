use Rattle.std.proofs.Common.{◌≡◌, ◌⊎◌, IsTrue, IsFalse, map, take}
use Rattle.std.specs.Map.{keys_of}
use Rattle.std.specs.Set.{is_member}
use Rattle.bgp_prefix.specs.declared.family.Family.{Family}
use Rattle.bgp_update.specs.declared.destination.Destination.{Destination}
use Rattle.bgp_rib.specs.DestinationOrder.{destination_cmp, destination_eq}
use Rattle.bgp_update.specs.Families.{contains}
use Rattle.bgp_rib.specs.Rooms.{routes_in, HasRoom, LeadsBack, HasEach}
use Rattle.bgp_rib.specs.Routes.{AreOutside}
use Rattle.bgp_rib.specs.Updates.{applied_value, after_updates, removed_by, enabled_in}
use Rattle.bgp_rib.proofs.updates.write_each.Given as goal

abbrev pub invariant-loop-update : goal.invariant-loop-update
invariant-loop-update g l = record {
  routes : enabled_in l.after l.table ≡ after_updates (map applied_value (take l.update-index l.updates)) (enabled_in l.fn.disabled l.fn.table);
  within : (f : Family) → IsFalse (contains l.after f) → IsFalse (contains l.fn.disabled f);
  outside : AreOutside l.fn.disabled (keys_of (routes_in l.fn.table)) → AreOutside l.fn.disabled (keys_of (routes_in l.table));
  rooms : (q : Destination) → HasRoom destination_cmp l.table q
      → HasRoom destination_cmp l.fn.table q ⊎ IsTrue (is_member destination_eq (removed_by (map applied_value (take l.update-index l.updates))) q);
  back : LeadsBack l.log.items l.table l.fn.log.items l.fn.table;
  noted : HasEach l.fn.log.items l.fn.table → HasEach l.log.items l.table;
}
