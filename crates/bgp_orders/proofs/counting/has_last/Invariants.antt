use Rattle.std.proofs.Common.{take}
use Rattle.bgp_machine.specs.Lists.{Has}
use Rattle.bgp_orders.proofs.Counts.{IsLastOf}
use Rattle.bgp_orders.proofs.counting.has_last.Given as goal

-- none of those so far is the last of a way
abbrev pub invariant-loop-node : goal.invariant-loop-node
invariant-loop-node g l = Has (λ x. IsLastOf l.exchange x) (take l.node-index l.row) → ⊥
