use Rattle.std.proofs.Common.{refl}
use Rattle.bgp_why.proofs.errors.update_errors.Goals as goal

pub returns : goal.returns
returns c =
    rw (c.error_if.ensures, c.error_if-2.ensures, c.error_if-3.ensures, c.error_if-4.ensures, c.error_if-5.ensures, c.error_if-6.ensures, c.error_if-7.ensures, c.error_if-8.ensures, c.error_if-9.ensures, c.error_if-10.ensures, c.error_if-11.ensures) refl
