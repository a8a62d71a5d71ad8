use Rattle.std.proofs.Common.{arith}
use Rattle.bgp_open.proofs.CapabilityOctets.{one_within}
use Rattle.bgp_open.proofs.written_open.room_behind.Goals as goal

pub returns-in_err-checked_sub-clause-none : goal.returns-in_err-checked_sub-clause-none
returns-in_err-checked_sub-clause-none c =
    rw c.from_residual.ensures
    (omega (arith, c.in_err-checked_sub.ensures, one_within c.args.capabilities.now c.loop-capability.capability-index c.loop-capability-test.true))

pub returns-in_err-left-clause-none : goal.returns-in_err-left-clause-none
returns-in_err-left-clause-none c =
    rw c.from_residual-in_err-left.ensures
    (omega (arith, c.in_ok-checked_sub.ensures, c.in_err-left.ensures, one_within c.args.capabilities.now c.loop-capability.capability-index c.loop-capability-test.true))
