use Rattle.std.proofs.Common.{take}
use Rattle.bgp_machine.specs.Lists.{Has}
use Rattle.bgp_machine.specs.State.{state_value}
use Rattle.mrt.specs.Reader.{shown_of}
use Rattle.bgp_judge.specs.Plain.{Gains, StartsAt}
use Rattle.bgp_judge.proofs.members.add_starts.Given as goal

-- what the steps from the heads so far make of the state is there besides
abbrev pub invariant-loop-head : goal.invariant-loop-head
invariant-loop-head g l =
    Gains l.initial.members.items l.members.items (λ m. Has (λ h. StartsAt l.config (shown_of l.shown) (state_value l.state) h m) (take l.head-index l.head-items))
