use Rattle.std.proofs.Common.{arith}
use Rattle.bgp_attr.proofs.field.first_attr.Goals as goal

pub returns-in_err-header_len-clause-none : goal.returns-in_err-header_len-clause-none
returns-in_err-header_len-clause-none c =
    rw c.from_residual.ensures (omega (arith, c.in_err-header_len.ensures.none))
