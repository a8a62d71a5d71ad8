use Rattle.std.proofs.Common.{◌≡◌, take}
use Rattle.bgp_machine.specs.Lists.{Has}
use Rattle.bgp_judge.specs.Ends.{end_value}
use Rattle.bgp_judge.specs.Plain.{end_of_member}
use Rattle.bgp_judge.proofs.ending.has_end.Given as goal

-- none of those so far is the member's
abbrev pub invariant-loop-end : goal.invariant-loop-end
invariant-loop-end g l = Has (λ x. end_value x ≡ end_of_member l.member) (take l.end-index l.ends) → ⊥
