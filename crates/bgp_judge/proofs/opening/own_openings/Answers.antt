use Rattle.std.proofs.Common.{arith}
use Rattle.mrt.specs.Reader.{shown_of}
use Rattle.bgp_judge.proofs.KeptSteps.{one_more, all_so_far}
use Rattle.bgp_judge.proofs.opening.own_openings.Goals as goal

pub loop-step-preserved : goal.loop-step-preserved
loop-step-preserved c = record {
  opened = one_more c.args.config.now c.args.head c.args.t (shown_of c.args.shown.now) c.args.steps.now c.loop-step.step-index _ _ _ c.loop-step-test.true
      c.requires.own c.requires.second c.requires.hidden c.loop-step.invariant.opened c.add_opened.ensures.kept;
  room = omega arith;
}

pub returns : goal.returns
returns c =
    all_so_far c.args.config.now c.args.head c.args.t (shown_of c.args.shown.now) c.args.steps.now c.loop-step.step-index _ c.loop-step-test.false
    c.requires.own c.requires.second c.requires.hidden c.loop-step.invariant.opened
