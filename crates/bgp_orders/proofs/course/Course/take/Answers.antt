use Rattle.bgp_orders.specs.declared.course.Step.{Step}
use Rattle.std.proofs.Common.{subst, sym}
use Rattle.bgp_orders.specs.Tracks.{GoesOnBy}
use Rattle.bgp_orders.proofs.Steps.{if_ok}
use Rattle.bgp_orders.proofs.course.Course.take.Goals as goal

pub returns-in-Receive-clause-along : goal.returns-in-Receive-clause-along
returns-in-Receive-clause-along g c =
    let s = c.args.search.now in
    if_ok c.hear.result _ _ (λ may h. subst (λ (v : Step). GoesOnBy s.config s.within s.exchange v may c.args.self.now c.hear.new.self) (sym c.in-Receive.is) h) c.hear.ensures.along

pub returns-in-Pass-clause-along : goal.returns-in-Pass-clause-along
returns-in-Pass-clause-along g c =
    let s = c.args.search.now in
    if_ok c.pass.result _ _ (λ may h. subst (λ (v : Step). GoesOnBy s.config s.within s.exchange v may c.args.self.now c.pass.new.self) (sym c.in-Pass.is) h) c.pass.ensures.along
