use Rattle.bgp_why_laws.proofs.Lines.{cuts_visible, data_visible_all}
use Rattle.bgp_why_laws.proofs.laws.each_cut_is_visible.Goals as goal

pub returns-clause-messages : goal.returns-clause-messages
returns-clause-messages c = cuts_visible

pub returns-clause-data : goal.returns-clause-data
returns-clause-data c = data_visible_all
