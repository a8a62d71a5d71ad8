use Rattle.std.proofs.Common.{◌≢◌, [], IsTrue, refl, sym, subst, arith}
use Rattle.bgp_judge.proofs.Gaining.{has_here, none_more, none_all}
use Rattle.bgp_orders.proofs.node.has_some.Goals as goal

pub returns-then-has_any : goal.returns-then-has_any
returns-then-has_any g c = (
  λ t. has_here (λ v. v.members.items ≢ []) c.args.nodes.now c.loop-node.node-index c.node-item.result c.loop-node-test.true
      (subst (λ v. v.members.items ≢ []) c.node-item.is (subst (λ v. v ≢ []) c.as_slice.ensures.value (c.has_any.ensures.0 c.if-has_any.true))),
  λ h. refl,
)

pub loop-node-preserved : goal.loop-node-preserved
loop-node-preserved g c =
    none_more (λ v. v.members.items ≢ []) c.args.nodes.now c.loop-node.node-index c.node-item.result c.loop-node-test.true c.loop-node.invariant
    (λ some.
    let h : IsTrue c.has_any.result = c.has_any.ensures.1 (subst (λ v. v ≢ []) (sym c.as_slice.ensures.value) (subst (λ v. v.members.items ≢ []) (sym c.node-item.is) some)) in
    cc)

pub returns : goal.returns
returns g c =
    (λ t. absurd (cc), λ h. absurd (none_all (λ v. v.members.items ≢ []) c.args.nodes.now c.loop-node.node-index (omega arith) c.loop-node.invariant h))
