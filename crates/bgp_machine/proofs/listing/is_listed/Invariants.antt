use Rattle.std.proofs.Common.{◌≡◌, take}
use Rattle.bgp_machine.specs.Lists.{Has}
use Rattle.bgp_machine.proofs.listing.is_listed.Given as goal

-- it isn't among those so far
abbrev pub invariant-loop-x : goal.invariant-loop-x
invariant-loop-x l = Has (λ x. x ≡ l.step) (take l.x-index l.steps) → ⊥
