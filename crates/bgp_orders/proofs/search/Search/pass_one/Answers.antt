use Rattle.std.proofs.Common.{subst, sym}
use Rattle.bgp_orders.specs.Rows.{Passes}
use Rattle.bgp_orders.specs.Tidy.{AreUpTo, StandsAt, StaysTidy}
use Rattle.bgp_orders.proofs.Counts.{some_is}
use Rattle.bgp_orders.proofs.Steps.{all_made, nothing_at, nothing_made, on_ok, place_none, place_some}
use Rattle.bgp_orders.proofs.Tidy.{at_place, nothing_there, stays}
use Rattle.bgp_orders.proofs.search.Search.pass_one.Goals as goal

pub returns-in_default-clause-gains : goal.returns-in_default-clause-gains
returns-in_default-clause-gains g c =
    let s = c.args.self.now in
    nothing_at s.exchange c.args.row.now c.args.index (λ n n2. Passes s.config s.within n n2) c.args.next.now.items (place_none c.args.row.now c.args.index c.in_default.ensures.lookup)

pub returns-in_default-clause-tidy : goal.returns-in_default-clause-tidy
returns-in_default-clause-tidy g c =
    nothing_there c.args.row.now c.args.index _ (place_none c.args.row.now c.args.index c.in_default.ensures.lookup)

pub returns-in_default-2-clause-gains : goal.returns-in_default-2-clause-gains
returns-in_default-2-clause-gains g c =
    let s = c.args.self.now in
    nothing_made s.exchange c.args.row.now c.args.index (λ n n2. Passes s.config s.within n n2) c.args.next.now.items c.in-Some.node.now c.in_ok-made.field-0
    (place_some c.args.row.now c.args.index c.in-Some.node c.in-Some.ensures.lookup) c.in_ok-made.ensures.made c.in_default-2.is

pub returns-in_default-2-clause-tidy : goal.returns-in_default-2-clause-tidy
returns-in_default-2-clause-tidy g c =
    let s = c.args.self.now in
    at_place c.args.row.now c.args.index c.in-Some.node.now _ (place_some c.args.row.now c.args.index c.in-Some.node c.in-Some.ensures.lookup)
    (λ within tidy each. stays s.exchange c.in-Some.node.now.spot.place.received c.args.next.now.items tidy)

pub returns-clause-gains : goal.returns-clause-gains
returns-clause-gains g c =
    let s = c.args.self.now in
    on_ok c.add_each.result _ _
    (λ gains. all_made s.exchange c.args.row.now c.args.index (λ n n2. Passes s.config s.within n n2) c.args.next.now.items c.in-Some.node.now c.in-Some-2.made c.in_ok-made.field-0
    c.add_each.new.nodes.items (place_some c.args.row.now c.args.index c.in-Some.node c.in-Some.ensures.lookup) c.in_ok-made.ensures.made c.in-Some-2.is (gains s.exchange))
    c.add_each.ensures.gains

pub returns-clause-tidy : goal.returns-clause-tidy
returns-clause-tidy g c =
    let s = c.args.self.now in
    let old = c.args.next.now.items in
    let received = c.in-Some.node.now.spot.place.received in
    on_ok c.add_each.result _ _
    (λ stays_so. at_place c.args.row.now c.args.index c.in-Some.node.now _ (place_some c.args.row.now c.args.index c.in-Some.node c.in-Some.ensures.lookup)
    (λ within tidy each.
    let at : StandsAt s.exchange received c.in-Some-2.made = some_is c.in_ok-made.field-0 c.in-Some-2.made (StandsAt s.exchange received) c.in-Some-2.is (c.in_ok-made.ensures.stands within) in
    subst (λ k. StaysTidy s.exchange k old c.add_each.new.nodes.items) at.1
    (stays_so s.exchange tidy at.0 (subst (λ k. AreUpTo k old) (sym at.1) each))))
    c.add_each.ensures.tidy
