use Rattle.bgp_machine.proofs.JoinedRuns.{run_joined, no_steps, step_first}
use Rattle.bgp_machine.proofs.laws.runs_are_joined.Goals as goal

pub returns-clause-joined : goal.returns-clause-joined
returns-clause-joined c = run_joined

pub returns-clause-none : goal.returns-clause-none
returns-clause-none c = no_steps

pub returns-clause-first : goal.returns-clause-first
returns-clause-first c = step_first
