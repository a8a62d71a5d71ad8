use Rattle.std.proofs.Common.{◌≡◌, All, take}
use Rattle.bgp_update.specs.declared.destination.Destination.{Destination}
use Rattle.bgp_rib.specs.DestinationOrder.{destination_cmp}
use Rattle.bgp_rib.specs.Rooms.{routes_in, HasRoom}
use Rattle.bgp_rib.proofs.writing.sweep_all.Given as goal

abbrev pub invariant-loop-destination : goal.invariant-loop-destination
invariant-loop-destination g l = record {
  same : routes_in l.table ≡ routes_in l.fn.table;
  rooms : (q : Destination) → HasRoom destination_cmp l.table q → HasRoom destination_cmp l.fn.table q;
  swept : All (λ p. HasRoom destination_cmp l.table p → ⊥) (take l.destination-index l.destinations);
}
