use Rattle.bgp_check_text.proofs.Refusals.{error_at}
use Rattle.bgp_check_text.proofs.refused.first_error.Goals as goal

pub returns-then-sends_update_error-clause-some : goal.returns-then-sends_update_error-clause-some
returns-then-sends_update_error-clause-some c =
    error_at c.args.records.now c.loop-count.count _ c.loop-count-test.true c.loop-count.invariant (c.sends_update_error.ensures.0 c.if-sends_update_error.true)
