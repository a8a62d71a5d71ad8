use Rattle.bgp_ladder.proofs.Ends.{ended}
use Rattle.bgp_ladder.proofs.numbering.put_blank_cell.Goals as goal

pub returns : goal.returns
returns g c = ended c.put_tag.ensures
