use Rattle.bgp_lines.specs.OpenLine.{said_text}
use Rattle.bgp_lines.proofs.open_line.put_said.Goals as goal

pub returns-in-None : goal.returns-in-None
unfolding said_text
returns-in-None g c = rw c.in-None.is c.put_hidden.ensures

pub returns-in-Some : goal.returns-in-Some
unfolding said_text
returns-in-Some g c = rw c.in-Some.is c.put_value.ensures
