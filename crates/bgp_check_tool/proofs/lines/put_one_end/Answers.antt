use Rattle.bgp_check_lines.specs.Values.{unnamed_line}
use Rattle.bgp_check_tool.specs.Text.{one_end_line}
use Rattle.bgp_check_tool.proofs.lines.put_one_end.Goals as goal

pub returns : goal.returns
unfolding one_end_line unnamed_line
returns g c = rw c.named_end.ensures at c.put_unnamed.ensures
