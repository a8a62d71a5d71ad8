use Rattle.std.proofs.Common.{◌≡◌, length}
use Rattle.bgp_rib.specs.Rooms.{routes_in}
use Rattle.bgp_rib.specs.Routes.{entries_outside}
use Rattle.bgp_rib.proofs.route_iter.RouteIterIterator.next.Given as goal

abbrev pub invariant-loop-destination : goal.invariant-loop-destination
invariant-loop-destination g l = entries_outside l.self-inside.hidden (routes_in l.self-inside.entries) ≡ l.fn.self

abbrev pub decreases-loop-destination : goal.decreases-loop-destination
decreases-loop-destination g l = length l.self-inside.entries
