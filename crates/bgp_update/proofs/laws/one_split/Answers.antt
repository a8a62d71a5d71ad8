use Rattle.bgp_update.proofs.OneSplit.{one_split}
use Rattle.bgp_update.proofs.laws.one_split.Goals as goal

pub returns : goal.returns
returns c = record { unique = one_split }
