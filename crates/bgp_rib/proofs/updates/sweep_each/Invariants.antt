use Rattle.std.proofs.Common.{◌≡◌, All, map, take}
use Rattle.bgp_update.specs.declared.destination.Destination.{Destination}
use Rattle.bgp_rib.specs.DestinationOrder.{destination_cmp}
use Rattle.bgp_rib.specs.Rooms.{routes_in, HasRoom}
use Rattle.bgp_rib.specs.Updates.{applied_value, removed_by}
use Rattle.bgp_rib.proofs.updates.sweep_each.Given as goal

abbrev pub invariant-loop-update : goal.invariant-loop-update
invariant-loop-update g l = record {
  same : routes_in l.table ≡ routes_in l.fn.table;
  rooms : (q : Destination) → HasRoom destination_cmp l.table q → HasRoom destination_cmp l.fn.table q;
  swept : All (λ p. HasRoom destination_cmp l.table p → ⊥) (removed_by (map applied_value (take l.update-index l.updates)));
}
