use Rattle.bgp_rib.specs.Routes.{routes_after}
use Rattle.bgp_compact.specs.Steps.{Fits, FromStep, IsOpen}
use Rattle.bgp_compact.proofs.StepLoops.{each_at, gains_none, gains_more, gains_all}
use Rattle.bgp_compact.proofs.beginning.with_steps.Goals as goal

pub loop-step-init : goal.loop-step-init
loop-step-init c = record {
  behind = λ config shown changes each behind. behind;
  gains = λ config shown changes table each behind some are fresh fits.
      gains_none c.args.words (routes_after changes table) (λ x m. FromStep c.args.base changes table x m);
}

pub loop-step-preserved : goal.loop-step-preserved
loop-step-preserved c = record {
  behind = λ config shown changes each behind.
      c.with_step-next.ensures.behind config shown changes
      (each_at (IsOpen config c.args.base.head shown changes) c.args.steps.now c.loop-step.step-index _ each c.loop-step-test.true)
      (c.loop-step.invariant.behind config shown changes each behind);
  gains = λ config shown changes table each behind some are fresh fits.
      gains_more c.args.words c.loop-step.next c.with_step-next.result (routes_after changes table) (λ x m. FromStep c.args.base changes table x m)
      c.args.steps.now c.loop-step.step-index _ c.loop-step-test.true
      (c.loop-step.invariant.gains config shown changes table each behind some are fresh fits)
      (c.with_step-next.ensures.gains config shown changes table
      (each_at (IsOpen config c.args.base.head shown changes) c.args.steps.now c.loop-step.step-index _ each c.loop-step-test.true)
      (c.loop-step.invariant.behind config shown changes each behind) some are fresh
      (each_at (Fits changes table) c.args.steps.now c.loop-step.step-index _ fits c.loop-step-test.true));
}

pub returns-clause-behind : goal.returns-clause-behind
returns-clause-behind c = c.loop-step.invariant.behind

pub returns-clause-gains : goal.returns-clause-gains
returns-clause-gains c = λ config shown changes table each behind some are fresh fits.
    gains_all c.args.words c.loop-step.next (routes_after changes table) (λ x m. FromStep c.args.base changes table x m) c.args.steps.now c.loop-step.step-index c.loop-step-test.false
    (c.loop-step.invariant.gains config shown changes table each behind some are fresh fits)
