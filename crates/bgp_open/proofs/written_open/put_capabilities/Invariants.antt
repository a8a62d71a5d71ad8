use Rattle.std.proofs.Common.{map, take, vec_len, vec_capacity}
use Rattle.bgp_open.specs.Triplet.{triplets_octets}
use Rattle.bgp_open.specs.Capability.{capability_of}
use Rattle.bgp_open.proofs.CapabilityOctets.{IsFilled}
use Rattle.bgp_open.proofs.written_open.put_capabilities.Given as goal

abbrev pub invariant-loop-capability : goal.invariant-loop-capability
invariant-loop-capability g l =
    IsFilled l.initial.out.items (vec_len l.initial.out) (vec_capacity l.initial.out)
    (triplets_octets (map capability_of (take l.capability-index l.capabilities))) l.out.items (vec_len l.out) (vec_capacity l.out)
