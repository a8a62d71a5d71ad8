use Rattle.bgp_update.specs.Surveyed.{found_by}
use Rattle.bgp_update.proofs.CleanWords.{alone}
use Rattle.bgp_update.proofs.survey.Survey.is_applied_alone.Goals as goal

pub returns : goal.returns
returns c =
    alone (found_by c.args.self.now) c.has_withdraw_fault.result
    (c.allows_no_reset.ensures.0 c.if-not-allows_no_reset.false)
    (c.disables_nothing.ensures.0 c.if-not-disables_nothing.false)
    c.has_withdraw_fault.ensures
