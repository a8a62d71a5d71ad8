use Rattle.std.proofs.Common.{◌≡◌, List, option_copied, ap, subst, sym}
use Rattle.bgp_machine.specs.declared.step.Step.{Step}
use Rattle.bgp_machine.specs.Listed.{changes_of}
use Rattle.bgp_machine.specs.State.{state_value}
use Rattle.bgp_machine.specs.Changes.{RouteChanges}
use Rattle.mrt.specs.Reader.{shown_of}
use Rattle.bgp_judge.specs.Openings.{ListsOpenings}
use Rattle.bgp_judge.specs.Plain.{opened_member}
use Rattle.bgp_judge.proofs.Gaining.{gains_none, gains_more, gains_all}
use Rattle.bgp_judge.proofs.NextMembers.{openings_gain}
use Rattle.bgp_judge.proofs.members.add_openings.Goals as goal

pub loop-step-init : goal.loop-step-init
loop-step-init g c =
    gains_none c.args.members.now.items (λ x m. m ≡ opened_member (state_value c.args.state.now) c.args.head (changes_of (option_copied c.as_ref-changes.result)) x)

pub loop-step-preserved : goal.loop-step-preserved
loop-step-preserved g c =
    gains_more c.args.members.now.items c.loop-step.members.items c.add_step.new.members.items
    (λ x m. m ≡ opened_member (state_value c.args.state.now) c.args.head (changes_of (option_copied c.as_ref-changes.result)) x)
    c.as_slice-step-items.result.now c.loop-step.step-index _ c.loop-step-test.true c.loop-step.invariant c.in_ok-add_step.ensures

pub returns : goal.returns
returns g c =
    let changes : RouteChanges = changes_of (option_copied c.as_ref-changes.result) in
    let lists : ListsOpenings c.args.config.now c.args.head (shown_of c.args.shown.now) changes c.as_slice-step-items.result.now =
    subst (λ (v : List Step). ListsOpenings c.args.config.now c.args.head (shown_of c.args.shown.now) changes v) (sym c.as_slice-step-items.ensures.value)
    (subst (λ (v : RouteChanges). ListsOpenings c.args.config.now c.args.head (shown_of c.args.shown.now) v c.in_ok-opened.opened.steps.items) (ap changes_of (sym c.as_ref-changes.ensures.value)) c.in_ok-opened.ensures.exact) in
    openings_gain c.args.config.now (shown_of c.args.shown.now) (state_value c.args.state.now) c.args.head changes c.as_slice-step-items.result.now
    c.args.members.now.items c.loop-step.members.items lists
    (gains_all c.args.members.now.items c.loop-step.members.items (λ x m. m ≡ opened_member (state_value c.args.state.now) c.args.head changes x)
    c.as_slice-step-items.result.now c.loop-step.step-index c.loop-step-test.false c.loop-step.invariant)
