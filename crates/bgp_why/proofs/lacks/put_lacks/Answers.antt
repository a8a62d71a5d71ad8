use Rattle.bgp_why.proofs.lacks.put_lacks.Goals as goal

pub returns-in-Update : goal.returns-in-Update
returns-in-Update g c =
    rw c.in-Update.is ((rw c.as_slice.ensures.value at c.put_parts.ensures))
