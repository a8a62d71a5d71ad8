use Rattle.std.proofs.Common.{take}
use Rattle.bgp_machine.specs.Lists.{Has}
use Rattle.bgp_orders.specs.Tracks.{IsLastOf}
use Rattle.bgp_orders.proofs.tracing.last_index.Given as goal

-- none of those so far is the last of a way
abbrev pub invariant-loop-index : goal.invariant-loop-index
invariant-loop-index g l = Has (λ x. IsLastOf l.exchange x) (take l.index l.row) → ⊥
