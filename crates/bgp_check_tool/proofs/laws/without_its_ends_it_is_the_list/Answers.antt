use Rattle.bgp_check_tool.proofs.Headings.{the_list, without_ends}
use Rattle.bgp_check_tool.proofs.laws.without_its_ends_it_is_the_list.Goals as goal

pub returns-clause-lines : goal.returns-clause-lines
returns-clause-lines c = without_ends

pub returns-clause-all : goal.returns-clause-all
returns-clause-all c = the_list
