use Rattle.bgp_why_laws.proofs.Reasons.{asks_visible, update_asks_visible}
use Rattle.bgp_why_laws.proofs.laws.each_ask_is_visible.Goals as goal

pub returns-clause-messages : goal.returns-clause-messages
returns-clause-messages c = asks_visible

pub returns-clause-updates : goal.returns-clause-updates
returns-clause-updates c = update_asks_visible
