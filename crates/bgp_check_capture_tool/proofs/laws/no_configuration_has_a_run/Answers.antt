use Rattle.bgp_check_capture_tool.proofs.Verdicts.{no_run}
use Rattle.bgp_check_capture_tool.proofs.laws.no_configuration_has_a_run.Goals as goal

pub returns : goal.returns
returns c = no_run c.no_configuration_has_a_run.ensures
