use Rattle.bgp_check_text.proofs.states.put_counts.Goals as goal

pub returns-in-Some : goal.returns-in-Some
returns-in-Some g c = rw c.in-Some.ensures.cases.0 c.put_some_counts.ensures
