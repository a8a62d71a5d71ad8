use Rattle.std.proofs.Common.{length}
use Rattle.bgp_judge.specs.Plain.{member_value}
use Rattle.bgp_orders.proofs.Tidy.{IsSought}
use Rattle.bgp_orders.proofs.node.has.Given as goal

-- what is left to be looked at is of the list, and the others don't keep the node
abbrev pub invariant-loop-node : goal.invariant-loop-node
invariant-loop-node g l = IsSought l.spot (member_value l.member) l.nodes l.left

abbrev pub decreases-loop-node : goal.decreases-loop-node
decreases-loop-node g l = length l.left
