use Rattle.bgp_way_ends.proofs.MadeUnfinished.{made_unfinished}
use Rattle.bgp_way_ends.proofs.laws.a_made_unfinished_is_no_no.Goals as goal

pub returns : goal.returns
returns c = made_unfinished
