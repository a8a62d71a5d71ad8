use Rattle.bgp_update.specs.ResetFaults.{IsResetSubcode, IsMereSubcode}
use Rattle.bgp_update.specs.Subcodes.{HasSubcode}
use Rattle.bgp_update.specs.Surveyed.{found_by}
use Rattle.bgp_update.proofs.CleanWords.{no_subcode}
use Rattle.bgp_update.proofs.survey.Survey.allows_no_reset.Goals as goal

pub returns : goal.returns
returns c =
    no_subcode (IsResetSubcode (found_by c.args.self.now)) (IsMereSubcode (found_by c.args.self.now)) (HasSubcode c.union.result) (HasSubcode c.reset_subcodes.result) (HasSubcode c.mere_subcodes.result) c.is_empty.result
    c.reset_subcodes.ensures c.mere_subcodes.ensures c.union.ensures c.is_empty.ensures
