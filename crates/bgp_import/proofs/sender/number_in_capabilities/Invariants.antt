use Rattle.std.proofs.Common.{◌≡◌}
use Rattle.bgp_open.specs.Offer.{as_number_of}
use Rattle.bgp_import.proofs.sender.number_in_capabilities.Given as goal

-- what the rest tells, all tell
abbrev pub invariant-loop-capability : goal.invariant-loop-capability
invariant-loop-capability l = as_number_of l.capability-iterator ≡ as_number_of l.message.capabilities
