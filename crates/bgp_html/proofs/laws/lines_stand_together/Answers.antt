use Rattle.bgp_html.proofs.Grouped.{stand_together}
use Rattle.bgp_html.proofs.laws.lines_stand_together.Goals as goal

pub returns : goal.returns
returns c = stand_together
