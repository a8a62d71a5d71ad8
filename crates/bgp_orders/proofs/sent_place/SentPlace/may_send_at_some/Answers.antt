use Rattle.std.proofs.Common.{IsTrue, refl, sym, subst, arith}
use Rattle.bgp_judge.proofs.Gaining.{has_here, none_more, none_all}
use Rattle.bgp_orders.specs.SentPlaces.{Takes}
use Rattle.bgp_orders.proofs.sent_place.SentPlace.may_send_at_some.Goals as goal

pub returns-then-branch : goal.returns-then-branch
returns-then-branch g c =
    let s = c.args.self.now.search in (
      λ t. has_here (λ v. Takes s.config s.within s.exchange c.args.octets.now v) c.args.nodes.now c.loop-node.node-index c.node-item.result c.loop-node-test.true
          (subst (λ v. Takes s.config s.within s.exchange c.args.octets.now v) c.node-item.is (c.in_ok-may_send_at.ensures.0 c.if-branch.true)),
      λ h. refl,
    )

pub loop-node-preserved : goal.loop-node-preserved
loop-node-preserved g c =
    let s = c.args.self.now.search in
    none_more (λ v. Takes s.config s.within s.exchange c.args.octets.now v) c.args.nodes.now c.loop-node.node-index c.node-item.result c.loop-node-test.true c.loop-node.invariant
    (λ e.
    let h : IsTrue c.in_ok-may_send_at.field-0 = c.in_ok-may_send_at.ensures.1 (subst (λ v. Takes s.config s.within s.exchange c.args.octets.now v) (sym c.node-item.is) e) in
    cc)

pub returns : goal.returns
returns g c =
    let s = c.args.self.now.search in
    (λ t. absurd (cc), λ h. absurd (none_all (λ v. Takes s.config s.within s.exchange c.args.octets.now v) c.args.nodes.now c.loop-node.node-index (omega arith) c.loop-node.invariant h))
