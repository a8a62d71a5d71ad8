use Rattle.bgp_check.proofs.Told.{fault_is_a_no}
use Rattle.bgp_check.proofs.laws.an_own_fault_is_a_no.Goals as goal

pub returns : goal.returns
returns c = fault_is_a_no c.own_faults_are_all.ensures.sent
