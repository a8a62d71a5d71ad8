use Rattle.bgp_update.proofs.EmptyUpdate.{has_clean_update}
use Rattle.bgp_update.proofs.laws.empty_is_clean.Goals as goal

pub returns : goal.returns
returns c = record { empty = has_clean_update }
