use Rattle.bgp_check_tool.proofs.Alone.{each_connection, each_refusal}
use Rattle.bgp_check_tool.proofs.laws.each_of_them_is_told.Goals as goal

pub returns-clause-told : goal.returns-clause-told
returns-clause-told c = each_connection

pub returns-clause-refused : goal.returns-clause-refused
returns-clause-refused c = each_refusal
