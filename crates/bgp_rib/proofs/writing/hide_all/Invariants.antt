use Rattle.std.proofs.Common.{◌≡◌, ◌⊎◌, IsTrue, take}
use Rattle.std.specs.Set.{is_member}
use Rattle.bgp_update.specs.declared.destination.Destination.{Destination}
use Rattle.bgp_rib.specs.DestinationOrder.{destination_cmp, destination_eq}
use Rattle.bgp_rib.specs.Rooms.{routes_in, HasRoom, LeadsBack, HasEach}
use Rattle.bgp_rib.specs.Routes.{entries_without}
use Rattle.bgp_rib.proofs.writing.hide_all.Given as goal

abbrev pub invariant-loop-destination : goal.invariant-loop-destination
invariant-loop-destination g l = record {
  hidden : routes_in l.table ≡ entries_without (take l.destination-index l.destinations) (routes_in l.fn.table);
  rooms : (q : Destination) → HasRoom destination_cmp l.table q → HasRoom destination_cmp l.fn.table q ⊎ IsTrue (is_member destination_eq l.destinations q);
  back : LeadsBack l.log.items l.table l.fn.log.items l.fn.table;
  noted : HasEach l.fn.log.items l.fn.table → HasEach l.log.items l.table;
}
