use Rattle.bgp_why.proofs.errors.put_header_errors.Goals as goal

pub returns : goal.returns
returns g c = rw (c.error_if.ensures, c.length_error.ensures, c.type_error.ensures) at c.put_any.ensures
