use Rattle.std.proofs.Common.{◌+◌, ℕ, ap}
use Rattle.bgp_watch.proofs.Fronts.{one_more}
use Rattle.bgp_watch.proofs.telling.last_told.Goals as goal

pub loop-shown-preserved : goal.loop-shown-preserved
loop-shown-preserved c =
    let law = c.records_tell_one_by_one.ensures in
    let counted = c.loop-shown.invariant.counted in
    let step = one_more law.one_more law.state c.args.records.now c.loop-shown.shown-index c.loop-shown.last _ c.loop-shown.told c.loop-shown-test.true c.loop-shown.invariant.so_far in
    record {
      counted = ap (λ (n : ℕ). n + 1) counted;
      so_far = rw (c.last_with-last.ensures, c.with-told.ensures, counted) step;
    }
