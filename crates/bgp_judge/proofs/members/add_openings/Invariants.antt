use Rattle.std.proofs.Common.{◌≡◌, take, option_copied}
use Rattle.bgp_machine.specs.Lists.{Has}
use Rattle.bgp_machine.specs.Listed.{changes_of}
use Rattle.bgp_machine.specs.State.{state_value}
use Rattle.bgp_judge.specs.Plain.{Gains, opened_member}
use Rattle.bgp_judge.proofs.members.add_openings.Given as goal

-- what the steps so far make of the state is there besides
abbrev pub invariant-loop-step : goal.invariant-loop-step
invariant-loop-step g l =
    Gains l.initial.members.items l.members.items
    (λ m. Has (λ x. m ≡ opened_member (state_value l.state) l.head (changes_of (option_copied l.changes)) x) (take l.step-index l.step-items))
