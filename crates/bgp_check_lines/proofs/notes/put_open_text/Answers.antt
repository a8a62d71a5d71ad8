use Rattle.bgp_check_lines.specs.Values.{open_line}
use Rattle.bgp_check_lines.proofs.notes.put_open_text.Goals as goal

pub returns : goal.returns
unfolding open_line
returns g c = c.put.ensures
