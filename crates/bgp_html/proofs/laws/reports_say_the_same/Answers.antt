use Rattle.bgp_html.proofs.Reported.{say_the_same}
use Rattle.bgp_html.proofs.laws.reports_say_the_same.Goals as goal

pub returns : goal.returns
returns c = say_the_same
