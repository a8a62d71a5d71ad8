use Rattle.std.proofs.Common.{refl}
use Rattle.bgp_why.proofs.errors.header_faults.Goals as goal

pub returns : goal.returns
returns c = rw (c.error_if.ensures, c.error_if-2.ensures, c.error_if-3.ensures, c.is_some.ensures, c.is_some-2.ensures) refl
