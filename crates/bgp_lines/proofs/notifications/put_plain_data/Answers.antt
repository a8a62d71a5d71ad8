use Rattle.bgp_lines.specs.Notifications.{plain_data_text}
use Rattle.bgp_lines.proofs.notifications.put_plain_data.Goals as goal

pub returns-in-None : goal.returns-in-None
unfolding plain_data_text
returns-in-None g c = rw c.in-None.is c.put_digits.ensures

pub returns-in-Some : goal.returns-in-Some
unfolding plain_data_text
returns-in-Some g c = rw c.in-Some.is c.put_data.ensures
