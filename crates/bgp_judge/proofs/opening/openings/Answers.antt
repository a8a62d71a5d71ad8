use Rattle.bgp_judge.proofs.opening.openings.Goals as goal

pub returns-clause-exact : goal.returns-clause-exact
returns-clause-exact g c = c.in_ok-changes.ensures.exact

pub returns-clause-given : goal.returns-clause-given
returns-clause-given g c = c.in_ok-changes.ensures.given
