use Rattle.bgp_list.proofs.Each.{each_connection, each_refusal}
use Rattle.bgp_list.proofs.laws.each_of_them_is_listed.Goals as goal

pub returns-clause-connections : goal.returns-clause-connections
returns-clause-connections c = each_connection

pub returns-clause-refused : goal.returns-clause-refused
returns-clause-refused c = each_refusal
