use Rattle.bgp_check.proofs.Under.{has_its_verdict}
use Rattle.bgp_check.proofs.laws.a_verdict_holds_under_its_configuration.Goals as goal

pub returns : goal.returns
returns c = has_its_verdict
