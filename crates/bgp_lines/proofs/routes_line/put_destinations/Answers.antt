use Rattle.bgp_text.specs.Text.{destinations_text}
use Rattle.bgp_lines.proofs.routes_line.put_destinations.Goals as goal

pub returns-in-None : goal.returns-in-None
unfolding destinations_text
returns-in-None g c = rw c.in-None.ensures.steps.0 c.put.ensures

pub returns-in-Some : goal.returns-in-Some
returns-in-Some g c = rw c.in-Some.ensures.steps c.put_listed.ensures
