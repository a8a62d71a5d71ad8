use Rattle.std.proofs.Common.{IsTrue, ◌∙◌, subst, sym}
use Rattle.bgp_orders.specs.Rows.{StartsIn}
use Rattle.bgp_orders.specs.Tidy.{AreUpTo, StaysTidy}
use Rattle.bgp_orders.proofs.Counts.{starts_just}
use Rattle.bgp_orders.proofs.Steps.{gains_nothing, gains_same, on_ok}
use Rattle.bgp_orders.proofs.Tidy.{first_stands, stays}
use Rattle.bgp_orders.proofs.counting.add_start.Goals as goal

pub returns-then-not-may_start-clause-gains : goal.returns-then-not-may_start-clause-gains
returns-then-not-may_start-clause-gains g c =
    let s = c.args.search.now in
    gains_nothing s.exchange c.args.nodes.now.items (StartsIn s.config s.exchange c.args.start)
    (λ n h. let k : IsTrue c.may_start.result = c.may_start.ensures.1 h.0 in let not = c.if-not-may_start.true in absurd cc)

pub returns-then-not-may_start-clause-tidy : goal.returns-then-not-may_start-clause-tidy
returns-then-not-may_start-clause-tidy g c = λ tidy each.
    let s = c.args.search.now in
    stays s.exchange 0 c.args.nodes.now.items tidy

pub returns-clause-gains : goal.returns-clause-gains
returns-clause-gains g c =
    let s = c.args.search.now in
    on_ok c.add_each.result _ _
    (λ gains. gains_same s.exchange c.args.nodes.now.items c.add_each.new.nodes.items _ (StartsIn s.config s.exchange c.args.start) (gains s.exchange)
    (starts_just s.config s.exchange c.args.start c.fresh.result c.number.result c.number-2.result c.as_slice.result.now c.in_ok-members.members.items
    (c.may_start.ensures.0 c.if-not-may_start.false) c.fresh.ensures (c.as_slice.ensures.value ∙ c.in_ok-fresh.ensures)
    c.number.ensures.number c.number-2.ensures.number c.in_ok-members.ensures.next c.first_spot-spot.result c.first_spot-spot.ensures))
    c.add_each.ensures.gains

pub returns-clause-tidy : goal.returns-clause-tidy
returns-clause-tidy g c =
    let s = c.args.search.now in
    let old = c.args.nodes.now.items in
    let at = first_stands s.exchange c.args.start c.first_spot-spot.result c.first_spot-spot.ensures in
    on_ok c.add_each.result _ _
    (λ stays_so tidy each.
    subst (λ k. StaysTidy s.exchange k old c.add_each.new.nodes.items) at.1
    (stays_so s.exchange tidy at.0 (subst (λ k. AreUpTo k old) (sym at.1) each)))
    c.add_each.ensures.tidy
