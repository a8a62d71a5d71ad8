use Rattle.std.proofs.Common.{◌+◌, ℕ, ap, arith}
use Rattle.bgp_check.specs.Passed.{left_value}
use Rattle.bgp_check.proofs.Taken.{few_received, few_sent, kept_at}
use Rattle.bgp_check.proofs.passing.keep.Goals as goal

pub loop-shown-preserved : goal.loop-shown-preserved
loop-shown-preserved g c =
    let old = left_value c.loop-shown.kept in
    let new = left_value c.take.new.self in
    let received = few_received c.args.offers c.loop-shown.place _ old new c.in_ok-take.ensures in
    let sent = few_sent c.args.offers c.loop-shown.place _ old new c.in_ok-take.ensures in
    let few = c.loop-shown.invariant.few_received in
    let fewer = c.loop-shown.invariant.few_sent in
    record {
      counted = ap (λ (n : ℕ). n + 1) c.loop-shown.invariant.counted;
      few_received = omega (arith, received, few);
      few_sent = omega (arith, sent, fewer);
      kept = kept_at c.args.offers c.args.records.now c.loop-shown.shown-index _ c.loop-shown.place old new c.loop-shown-test.true c.loop-shown.invariant.counted c.loop-shown.invariant.kept
          c.in_ok-take.ensures;
    }
