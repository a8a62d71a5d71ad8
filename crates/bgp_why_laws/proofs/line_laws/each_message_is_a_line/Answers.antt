use Rattle.bgp_why_laws.proofs.Lines.{data_lines, messages}
use Rattle.bgp_why_laws.proofs.line_laws.each_message_is_a_line.Goals as goal

pub returns-clause-messages : goal.returns-clause-messages
returns-clause-messages c = messages

pub returns-clause-data : goal.returns-clause-data
returns-clause-data c = data_lines
