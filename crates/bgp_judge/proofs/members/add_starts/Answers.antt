use Rattle.std.proofs.Common.{List, subst, sym}
use Rattle.bgp_machine.specs.declared.state.Head.{Head}
use Rattle.bgp_machine.specs.Run.{ListsSilent}
use Rattle.bgp_machine.specs.State.{state_value}
use Rattle.mrt.specs.Reader.{shown_of}
use Rattle.bgp_judge.specs.Plain.{StartsAt}
use Rattle.bgp_judge.proofs.Gaining.{gains_more, gains_all}
use Rattle.bgp_judge.proofs.NextMembers.{starts_gain}
use Rattle.bgp_judge.proofs.members.add_starts.Goals as goal

pub loop-head-preserved : goal.loop-head-preserved
loop-head-preserved g c =
    gains_more c.args.members.now.items c.loop-head.members.items c.add_openings.new.members.items
    (λ h m. StartsAt c.args.config.now (shown_of c.args.shown.now) (state_value c.args.state.now) h m)
    c.as_slice-head-items.result.now c.loop-head.head-index _ c.loop-head-test.true c.loop-head.invariant c.in_ok-add_openings.ensures

pub returns : goal.returns
returns g c =
    starts_gain c.args.config.now (shown_of c.args.shown.now) (state_value c.args.state.now) c.as_slice-head-items.result.now
    c.args.members.now.items c.loop-head.members.items
    (subst (λ (v : List Head). ListsSilent c.args.config.now (state_value c.args.state.now) v) (sym c.as_slice-head-items.ensures.value)
    (c.silent_steps-heads.ensures c.args.state.now.rib))
    (gains_all c.args.members.now.items c.loop-head.members.items (λ h m. StartsAt c.args.config.now (shown_of c.args.shown.now) (state_value c.args.state.now) h m)
    c.as_slice-head-items.result.now c.loop-head.head-index c.loop-head-test.false c.loop-head.invariant)
