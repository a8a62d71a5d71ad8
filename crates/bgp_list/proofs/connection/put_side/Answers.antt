use Rattle.bgp_list.proofs.connection.put_side.Goals as goal

pub returns : goal.returns
returns g c = rw (c.endpoint_of-end.ensures, c.as_of.ensures) at c.put_numbered.ensures
