use Rattle.bgp_update.proofs.OneOutcome.{one_outcome}
use Rattle.bgp_update.proofs.laws.clean_is_applied.Goals as goal

pub returns : goal.returns
returns c = record { outcome = one_outcome }
