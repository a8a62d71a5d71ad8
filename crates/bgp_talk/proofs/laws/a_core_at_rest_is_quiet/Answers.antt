use Rattle.bgp_talk.proofs.Resting.{failure_brings_rest, rest_goes_on, idle_keeps_prefix, start_is_silent}
use Rattle.bgp_talk.proofs.laws.a_core_at_rest_is_quiet.Goals as goal

pub returns-clause-failure : goal.returns-clause-failure
returns-clause-failure c = failure_brings_rest

pub returns-clause-rest : goal.returns-clause-rest
returns-clause-rest c = rest_goes_on

pub returns-clause-announce : goal.returns-clause-announce
returns-clause-announce c = idle_keeps_prefix

pub returns-clause-start : goal.returns-clause-start
returns-clause-start c = start_is_silent
