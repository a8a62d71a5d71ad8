use Rattle.std.proofs.Common.{length}
use Rattle.bgp_orders.proofs.Tidy.{IsAdding}
use Rattle.bgp_orders.proofs.node.add_each.Given as goal

-- the nodes of the members that were taken away are appended
abbrev pub invariant-loop-member : goal.invariant-loop-member
invariant-loop-member g l =
    IsAdding l.spot l.initial.members.items l.members.items l.initial.nodes.items l.nodes.items

abbrev pub decreases-loop-member : goal.decreases-loop-member
decreases-loop-member g l = length l.members.items
