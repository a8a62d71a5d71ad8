use Rattle.bgp_check.proofs.OwnSettings.{faults}
use Rattle.bgp_check.proofs.SentOwn.{own}
use Rattle.bgp_check.proofs.laws.own_faults_are_all.Goals as goal

pub returns-clause-none : goal.returns-clause-none
returns-clause-none c = faults

pub returns-clause-sent : goal.returns-clause-sent
returns-clause-sent c = own
