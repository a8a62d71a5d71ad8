use Rattle.std.proofs.Common.{refl, subst}
use Rattle.bgp_machine.specs.Lists.{Has}
use Rattle.bgp_judge.specs.Plain.{member_value}
use Rattle.bgp_orders.specs.Rows.{IsIn, node_at}
use Rattle.bgp_orders.specs.Tidy.{AreInOrder, AreUpTo, KeepsOne}
use Rattle.bgp_orders.proofs.Steps.{gains_one, gains_there}
use Rattle.bgp_orders.proofs.Tidy.{stays, stays_with}
use Rattle.bgp_orders.proofs.node.add.Goals as goal

pub returns-then-has-clause-gains : goal.returns-then-has-clause-gains
returns-then-has-clause-gains g c = λ exchange.
    gains_there exchange c.args.nodes.now.items (node_at exchange c.args.spot (member_value c.args.member))
    (subst (λ v. IsIn exchange v (node_at exchange c.args.spot (member_value c.args.member))) c.as_slice.ensures.value (c.has.ensures.there c.if-has.true exchange))

pub returns-then-has-clause-tidy : goal.returns-then-has-clause-tidy
returns-then-has-clause-tidy g c = λ exchange tidy within plain each.
    stays exchange c.args.spot.place.received c.args.nodes.now.items tidy

pub returns-clause-gains : goal.returns-clause-gains
returns-clause-gains g c = λ exchange.
    gains_one exchange c.args.nodes.now.items c.push.new.self.items _ c.args.spot c.args.member c.in_ok-push.ensures.items refl c.in_ok-members.ensures

pub returns-clause-tidy : goal.returns-clause-tidy
returns-clause-tidy g c = λ exchange tidy within plain each.
    let m = member_value c.args.member in
    let none = subst (λ v. AreInOrder v → AreUpTo c.args.spot.place.received v → Has (KeepsOne c.args.spot m) v → ⊥) c.as_slice.ensures.value (c.has.ensures.none c.if-has.false) in
    stays_with exchange c.args.nodes.now.items c.push.new.self.items _ c.args.spot c.args.member c.in_ok-push.ensures.items refl c.in_ok-members.ensures (none tidy.order each) tidy within plain each
