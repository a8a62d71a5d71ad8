use Rattle.std.proofs.Common.{IsTrue, refl, arith}
use Rattle.bgp_machine.proofs.RowByRow.{listed_here, not_listed_more, not_listed_all}
use Rattle.bgp_machine.proofs.listing.is_listed.Goals as goal

pub returns-then-same_step : goal.returns-then-same_step
returns-then-same_step c =
    (λ t. listed_here c.args.steps.now c.loop-x.x-index _ c.args.step (omega arith) (c.same_step.ensures.0 c.if-same_step.true), λ h. refl)

pub loop-x-preserved : goal.loop-x-preserved
loop-x-preserved c =
    not_listed_more c.args.steps.now c.loop-x.x-index _ c.args.step (omega arith) c.loop-x.invariant
    (λ e. let h : IsTrue c.same_step.result = c.same_step.ensures.1 e in cc)

pub returns : goal.returns
returns c = (λ t. absurd (cc), λ h. absurd (not_listed_all c.args.steps.now c.loop-x.x-index c.args.step (omega arith) c.loop-x.invariant h))
