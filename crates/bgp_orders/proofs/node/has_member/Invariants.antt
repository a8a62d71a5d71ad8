use Rattle.std.proofs.Common.{◌≡◌, take}
use Rattle.bgp_machine.specs.Lists.{Has}
use Rattle.bgp_judge.specs.Plain.{member_value}
use Rattle.bgp_orders.proofs.node.has_member.Given as goal

-- none of those so far is the same
abbrev pub invariant-loop-x : goal.invariant-loop-x
invariant-loop-x g l = Has (λ v. member_value v ≡ member_value l.member) (take l.x-index l.members) → ⊥
