use Rattle.bgp_open.proofs.OneSetOfSubcodes.{names_of_both}
use Rattle.bgp_open.proofs.laws.subcodes_of_both_sets.Goals as goal

pub returns : goal.returns
returns c = names_of_both
