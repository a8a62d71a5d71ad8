use Rattle.std.proofs.Common.{◌≡◌, length}
use Rattle.std.specs.List.{list_all}
use Rattle.bgp_values.specs.CapabilityValue.{has_way}
use Rattle.bgp_values.specs.Pieces.{pieces_of}
use Rattle.bgp_values.proofs.capability_value.have_ways.Given as goal

abbrev pub invariant-loop-piece : goal.invariant-loop-piece
invariant-loop-piece l = list_all has_way (pieces_of 4 l.rest) ≡ list_all has_way (pieces_of 4 l.octets)

abbrev pub decreases-loop-piece : goal.decreases-loop-piece
decreases-loop-piece l = length l.rest
