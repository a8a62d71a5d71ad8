use Rattle.bgp_why.proofs.asked.Asked.of.Goals as goal

pub returns-clause-name : goal.returns-clause-name
returns-clause-name c = rw c.received_limit.ensures at c.of.ensures
