use Rattle.bgp_update.proofs.OneOutcome.{one_change}
use Rattle.bgp_update.proofs.laws.one_change.Goals as goal

pub returns : goal.returns
returns c = record { same = one_change }
