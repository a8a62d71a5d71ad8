use Rattle.std.proofs.Common.{take}
use Rattle.bgp_judge.specs.Plain.{Among, member_value}
use Rattle.bgp_judge.proofs.members.has.Given as goal

-- it isn't among those so far
abbrev pub invariant-loop-x : goal.invariant-loop-x
invariant-loop-x g l = Among (take l.x-index l.members) (member_value l.member) → ⊥
