use Rattle.std.proofs.Common.{◌≡◌, ◌+◌, take, length, map}
use Rattle.bgp_open.specs.Triplet.{triplets_octets}
use Rattle.bgp_open.specs.Capability.{capability_of}
use Rattle.bgp_open.proofs.written_open.room_behind.Given as goal

abbrev pub invariant-loop-capability : goal.invariant-loop-capability
invariant-loop-capability l =
    l.left + length (triplets_octets (map capability_of (take l.capability-index l.capabilities))) ≡ l.room
