use Rattle.bgp_machine.proofs.OwedWants.{each_met, each_set_has_fault}
use Rattle.bgp_machine.proofs.laws.each_owed_want_can_be_met.Goals as goal

pub returns-clause-met : goal.returns-clause-met
returns-clause-met c = each_met c.empty_is_clean.ensures.empty

pub returns-clause-some : goal.returns-clause-some
returns-clause-some c = each_set_has_fault c.empty_is_clean.ensures.empty
