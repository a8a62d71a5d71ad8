use Rattle.std.proofs.Common.{IsTrue, arith, subst, sym}
use Rattle.bgp_judge.proofs.Gaining.{none_all, none_more}
use Rattle.bgp_orders.specs.Tracks.{IsLastOf}
use Rattle.bgp_orders.proofs.Counts.{here_last}
use Rattle.bgp_orders.proofs.tracing.last_index.Goals as goal

pub loop-index-preserved : goal.loop-index-preserved
loop-index-preserved g c =
    none_more (λ v. IsLastOf c.args.exchange.now v) c.args.row.now c.loop-index.index c.index-row-index.result (omega (arith, c.loop-index-test.true, c.loop-index.auto.index-end)) c.loop-index.invariant
    (λ e. let h : IsTrue c.is_last.result = c.is_last.ensures.1 (subst (λ v. IsLastOf c.args.exchange.now v) (sym c.index-row-index.is) e) in cc)

pub returns-clause-none : goal.returns-clause-none
returns-clause-none g c = λ h.
    none_all (λ v. IsLastOf c.args.exchange.now v) c.args.row.now c.loop-index.index (omega (arith, c.loop-index-test.false, c.loop-index.auto.index-end)) c.loop-index.invariant
    (here_last c.args.exchange.now c.args.row.now h)
