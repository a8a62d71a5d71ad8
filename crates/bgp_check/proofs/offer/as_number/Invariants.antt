use Rattle.std.proofs.Common.{◌≡◌}
use Rattle.bgp_open.specs.Offer.{as_number_of}
use Rattle.bgp_check.proofs.offer.as_number.Given as goal

abbrev pub invariant-loop-capability : goal.invariant-loop-capability
invariant-loop-capability l = as_number_of l.capability-iterator ≡ as_number_of l.fn.message.capabilities
