use Rattle.bgp_why_laws.proofs.Lines.{received, updates}
use Rattle.bgp_why_laws.proofs.line_laws.the_last_received_is_a_line.Goals as goal

pub returns-clause-messages : goal.returns-clause-messages
returns-clause-messages c = received

pub returns-clause-updates : goal.returns-clause-updates
returns-clause-updates c = updates
