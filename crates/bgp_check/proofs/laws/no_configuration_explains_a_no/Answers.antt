use Rattle.bgp_check.proofs.Answered.{none_explains}
use Rattle.bgp_check.proofs.laws.no_configuration_explains_a_no.Goals as goal

pub returns : goal.returns
returns c = none_explains
