use Rattle.bgp_why.proofs.errors.put_passed.Goals as goal

pub returns-in-Some : goal.returns-in-Some
returns-in-Some g c = rw c.in-Some.is c.put_after.ensures
