use Rattle.bgp_ended.proofs.stretch.notified_at.Goals as goal

pub returns-in-In-clause-none : goal.returns-in-In-clause-none
returns-in-In-clause-none c = rw c.in-In.is c.notified_by.ensures.none

pub returns-in-Out-clause-none : goal.returns-in-Out-clause-none
returns-in-Out-clause-none c = rw c.in-Out.is c.notified_by-in-Out.ensures.none
