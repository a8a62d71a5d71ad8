use Rattle.bgp_lines.specs.Notifications.{error_data_text}
use Rattle.bgp_lines.proofs.notifications.put_error_data.Goals as goal

pub returns : goal.returns
unfolding error_data_text
returns g c = rw c.cause_of.ensures at c.put_caused_data.ensures
