use Rattle.std.proofs.Common.{take}
use Rattle.bgp_machine.specs.Lists.{Has}
use Rattle.bgp_judge.specs.Member.{IsFree}
use Rattle.bgp_judge.specs.Plain.{member_value}
use Rattle.bgp_orders.proofs.node.has_free.Given as goal

-- none of those so far has shown all
abbrev pub invariant-loop-member : goal.invariant-loop-member
invariant-loop-member g l = Has (λ x. IsFree (member_value x)) (take l.member-index l.members) → ⊥
