use Rattle.bgp_list.proofs.connection.put_end.Goals as goal

pub returns-in-Some : goal.returns-in-Some
returns-in-Some g c = rw c.in-Some.is (rw c.endpoint_of-by.ensures at c.put_ended.ensures)
