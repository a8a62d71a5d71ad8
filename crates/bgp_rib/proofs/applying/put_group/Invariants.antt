use Rattle.std.proofs.Common.{◌≡◌, map, take}
use Rattle.bgp_update.specs.declared.destination.Destination.{Destination}
use Rattle.bgp_rib.specs.DestinationOrder.{destination_cmp}
use Rattle.bgp_update.specs.Changes.{routes_with}
use Rattle.bgp_rib.specs.Rooms.{routes_in, HasRoom, LeadsBack, HasEach}
use Rattle.bgp_rib.specs.Routes.{entry_of, entries_outside, entries_with}
use Rattle.bgp_rib.proofs.applying.put_group.Given as goal

abbrev pub invariant-loop-destination : goal.invariant-loop-destination
invariant-loop-destination g l = record {
  routes : routes_in l.table
      ≡ entries_with (entries_outside l.disabled (map entry_of (routes_with l.group.path (take l.destination-index l.destination-items)))) (routes_in l.fn.table);
  rooms : (q : Destination) → HasRoom destination_cmp l.table q → HasRoom destination_cmp l.fn.table q;
  back : LeadsBack l.log.items l.table l.fn.log.items l.fn.table;
  noted : HasEach l.fn.log.items l.fn.table → HasEach l.log.items l.table;
}
