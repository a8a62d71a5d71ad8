use Rattle.bgp_why.proofs.errors.put_open_errors.Goals as goal

pub returns : goal.returns
returns g c =
    rw (c.error_if.ensures, c.version_error.ensures, c.error_if-2.ensures, c.error_if-3.ensures, c.error_if-4.ensures, c.error_if-5.ensures, c.error_if-6.ensures, c.error_if-7.ensures) at c.put_any.ensures
