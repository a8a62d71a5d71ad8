use Rattle.bgp_check.proofs.Stretched.{no_configuration}
use Rattle.bgp_check.proofs.stretch_laws.no_configuration_has_a_run.Goals as goal

pub returns : goal.returns
returns c = no_configuration c.no_configuration_explains_a_no.ensures
