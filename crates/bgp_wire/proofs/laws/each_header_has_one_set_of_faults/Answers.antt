use Rattle.bgp_wire.proofs.EachFault.{same_faults, one_set}
use Rattle.bgp_wire.proofs.laws.each_header_has_one_set_of_faults.Goals as goal

pub returns-clause-one : goal.returns-clause-one
returns-clause-one c = one_set

pub returns-clause-named : goal.returns-clause-named
returns-clause-named c = same_faults
