use Rattle.std.proofs.Common.{IsTrue, refl, sym, subst, arith}
use Rattle.bgp_judge.proofs.Gaining.{has_here, none_more, none_all}
use Rattle.bgp_orders.proofs.Counts.{IsLastOf, here_last, last_here}
use Rattle.bgp_orders.proofs.counting.has_last.Goals as goal

pub returns-then-is_last : goal.returns-then-is_last
returns-then-is_last g c = (
  λ t. last_here c.args.exchange.now c.args.row.now (has_here (λ v. IsLastOf c.args.exchange.now v) c.args.row.now c.loop-node.node-index c.node-item.result c.loop-node-test.true
      (subst (λ v. IsLastOf c.args.exchange.now v) c.node-item.is (c.is_last.ensures.0 c.if-is_last.true))),
  λ h. refl,
)

pub loop-node-preserved : goal.loop-node-preserved
loop-node-preserved g c =
    none_more (λ v. IsLastOf c.args.exchange.now v) c.args.row.now c.loop-node.node-index c.node-item.result c.loop-node-test.true c.loop-node.invariant
    (λ e. let h : IsTrue c.is_last.result = c.is_last.ensures.1 (subst (λ v. IsLastOf c.args.exchange.now v) (sym c.node-item.is) e) in cc)

pub returns : goal.returns
returns g c =
    (λ t. absurd (cc), λ h. absurd (none_all (λ v. IsLastOf c.args.exchange.now v) c.args.row.now c.loop-node.node-index (omega arith) c.loop-node.invariant (here_last c.args.exchange.now c.args.row.now h)))
