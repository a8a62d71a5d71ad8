use Rattle.std.proofs.Common.{arith}
use Rattle.bgp_open.proofs.CapabilityOctets.{one_within}
use Rattle.bgp_open.proofs.written_open.put_capabilities.Goals as goal

pub put_u8-requires : goal.put_u8-requires
put_u8-requires g c =
    omega (arith, one_within c.args.capabilities.now c.loop-capability.capability-index c.loop-capability-test.true)

pub overflow_cast-capability : goal.overflow_cast-capability
overflow_cast-capability g c =
    omega (arith, one_within c.args.capabilities.now c.loop-capability.capability-index c.loop-capability-test.true)

pub put_u8-requires-in-loop-capability : goal.put_u8-requires-in-loop-capability
put_u8-requires-in-loop-capability g c =
    omega (arith, one_within c.args.capabilities.now c.loop-capability.capability-index c.loop-capability-test.true)

pub put-requires : goal.put-requires
put-requires g c =
    omega (arith, one_within c.args.capabilities.now c.loop-capability.capability-index c.loop-capability-test.true)
