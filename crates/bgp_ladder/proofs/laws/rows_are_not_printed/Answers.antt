use Rattle.bgp_ladder.proofs.NotPrinted.{not_printed}
use Rattle.bgp_ladder.proofs.laws.rows_are_not_printed.Goals as goal

pub returns : goal.returns
returns c = not_printed
