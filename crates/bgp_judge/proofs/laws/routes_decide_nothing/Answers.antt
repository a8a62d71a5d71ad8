use Rattle.bgp_judge.proofs.Chains.{bare_chains, bare_step}
use Rattle.bgp_judge.proofs.laws.routes_decide_nothing.Goals as goal

pub returns-clause-step : goal.returns-clause-step
returns-clause-step c = bare_step

pub returns-clause-chains : goal.returns-clause-chains
returns-clause-chains c = bare_chains
