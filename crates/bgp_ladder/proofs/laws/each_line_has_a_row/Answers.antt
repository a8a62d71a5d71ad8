use Rattle.bgp_ladder.proofs.InPossible.{each_line}
use Rattle.bgp_ladder.proofs.laws.each_line_has_a_row.Goals as goal

pub returns : goal.returns
returns c = each_line
