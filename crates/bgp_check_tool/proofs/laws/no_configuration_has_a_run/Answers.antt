use Rattle.bgp_check_tool.proofs.Verdicts.{no_run, told_no}
use Rattle.bgp_check_tool.proofs.laws.no_configuration_has_a_run.Goals as goal

pub returns-clause-end : goal.returns-clause-end
returns-clause-end c = no_run c.no_configuration_explains_a_no.ensures

pub returns-clause-told : goal.returns-clause-told
returns-clause-told c = told_no c.no_configuration_explains_a_no.ensures
