use Rattle.bgp_update.proofs.Marks.{one_set}
use Rattle.bgp_update.proofs.subcodes.subcodes_are_sets.Goals as goal

pub returns : goal.returns
returns c = one_set
