use Rattle.std.proofs.Common.{[], take}
use Rattle.bgp_machine.specs.Lists.{Has}
use Rattle.mrt.specs.Reader.{shown_of}
use Rattle.bgp_judge.specs.Next.{Next}
use Rattle.bgp_judge.specs.Plain.{Gains, member_value}
use Rattle.bgp_judge.proofs.members.next_members.Given as goal

-- what the record makes of the members so far, and nothing else
abbrev pub invariant-loop-member : goal.invariant-loop-member
invariant-loop-member g l =
    Gains [] l.next.items (λ m. Has (λ x. Next l.config (shown_of l.shown) (member_value x) m) (take l.member-index l.members))
