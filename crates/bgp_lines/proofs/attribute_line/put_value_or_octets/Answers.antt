use Rattle.bgp_lines.specs.AttributeLine.{value_or_octets}
use Rattle.bgp_lines.proofs.attribute_line.put_value_or_octets.Goals as goal

pub returns-in-None : goal.returns-in-None
unfolding value_or_octets
returns-in-None g c = rw c.in-None.is c.put_octets.ensures

pub returns-in-Some : goal.returns-in-Some
unfolding value_or_octets
returns-in-Some g c = rw c.in-Some.is c.put_value.ensures
