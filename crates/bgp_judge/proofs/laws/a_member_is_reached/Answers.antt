use Rattle.bgp_judge.proofs.Chains.{begins_by_chains, ends_by_chains}
use Rattle.bgp_judge.proofs.laws.a_member_is_reached.Goals as goal

pub returns-clause-begins : goal.returns-clause-begins
returns-clause-begins c = begins_by_chains c.each_owed_want_can_be_met.ensures.met

pub returns-clause-ends : goal.returns-clause-ends
returns-clause-ends c = ends_by_chains c.each_owed_want_can_be_met.ensures.met
