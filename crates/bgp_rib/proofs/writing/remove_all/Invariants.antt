use Rattle.std.proofs.Common.{◌≡◌, take}
use Rattle.bgp_update.specs.declared.destination.Destination.{Destination}
use Rattle.bgp_rib.specs.DestinationOrder.{destination_cmp}
use Rattle.bgp_rib.specs.Rooms.{routes_in, HasRoom}
use Rattle.bgp_rib.specs.Routes.{entries_without}
use Rattle.bgp_rib.proofs.writing.remove_all.Given as goal

abbrev pub invariant-loop-destination : goal.invariant-loop-destination
invariant-loop-destination g l = record {
  routes : routes_in l.table ≡ entries_without (take l.destination-index l.destinations) (routes_in l.fn.table);
  rooms : (q : Destination) → HasRoom destination_cmp l.table q → HasRoom destination_cmp l.fn.table q;
}
