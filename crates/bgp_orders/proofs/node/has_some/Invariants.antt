use Rattle.std.proofs.Common.{◌≢◌, [], take}
use Rattle.bgp_machine.specs.Lists.{Has}
use Rattle.bgp_orders.proofs.node.has_some.Given as goal

-- none of those so far has a member
abbrev pub invariant-loop-node : goal.invariant-loop-node
invariant-loop-node g l = Has (λ x. x.members.items ≢ []) (take l.node-index l.nodes) → ⊥
