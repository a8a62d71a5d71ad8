use Rattle.bgp_html.proofs.Seen.{lines_are_printed}
use Rattle.bgp_html.proofs.laws.lines_are_printed.Goals as goal

pub returns : goal.returns
returns c = lines_are_printed
