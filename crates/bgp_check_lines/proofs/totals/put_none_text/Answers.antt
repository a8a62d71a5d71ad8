use Rattle.bgp_check_lines.specs.Values.{no_record_line}
use Rattle.bgp_check_lines.proofs.totals.put_none_text.Goals as goal

pub returns : goal.returns
unfolding no_record_line
returns g c = c.put.ensures
