use Rattle.std.proofs.Common.{subst, sym}
use Rattle.bgp_orders.specs.Rows.{IsMade, IsOf}
use Rattle.bgp_orders.specs.Tidy.{AreUpTo, StandsAt, StaysTidy}
use Rattle.bgp_orders.proofs.Counts.{some_is}
use Rattle.bgp_orders.proofs.Steps.{gains_nothing, gains_same, made_none, made_some, on_ok}
use Rattle.bgp_orders.proofs.Tidy.{stays}
use Rattle.bgp_orders.proofs.node.add_made.Goals as goal

pub returns-in_default-clause-gains : goal.returns-in_default-clause-gains
returns-in_default-clause-gains g c = λ exchange.
    gains_nothing exchange c.args.nodes.now.items (IsMade exchange c.args.made) (λ n h. made_none exchange c.args.made n c.in_default.is h)

pub returns-in_default-clause-tidy : goal.returns-in_default-clause-tidy
returns-in_default-clause-tidy g c = λ exchange received tidy stands each.
    stays exchange received c.args.nodes.now.items tidy

pub returns-clause-gains : goal.returns-clause-gains
returns-clause-gains g c =
    on_ok c.add_each.result _ _
    (λ gains exchange. gains_same exchange c.args.nodes.now.items c.add_each.new.nodes.items (IsOf exchange c.in-Some.made) (IsMade exchange c.args.made) (gains exchange)
    (λ n. made_some exchange c.args.made c.in-Some.made n c.in-Some.is))
    c.add_each.ensures.gains

pub returns-clause-tidy : goal.returns-clause-tidy
returns-clause-tidy g c =
    on_ok c.add_each.result _ _
    (λ stays_so exchange received tidy stands each.
    let old = c.args.nodes.now.items in
    let at : StandsAt exchange received c.in-Some.made = some_is c.args.made c.in-Some.made (StandsAt exchange received) c.in-Some.is stands in
    subst (λ k. StaysTidy exchange k old c.add_each.new.nodes.items) at.1
    (stays_so exchange tidy at.0 (subst (λ k. AreUpTo k old) (sym at.1) each)))
    c.add_each.ensures.tidy
