use Rattle.bgp_open.proofs.open.read_readable.Goals as goal

pub returns-clause-types : goal.returns-clause-types
returns-clause-types c = rw c.in-Some.ensures.parameters at c.are_all_capabilities.ensures
