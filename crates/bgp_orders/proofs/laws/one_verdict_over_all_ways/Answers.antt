use Rattle.bgp_orders.proofs.Over.{fewer_are_explained, never_none_over, one_verdict_over}
use Rattle.bgp_orders.proofs.laws.one_verdict_over_all_ways.Goals as goal

pub returns-clause-one : goal.returns-clause-one
returns-clause-one c = one_verdict_over

pub returns-clause-some : goal.returns-clause-some
returns-clause-some c = never_none_over

pub returns-clause-fewer : goal.returns-clause-fewer
returns-clause-fewer c = fewer_are_explained
