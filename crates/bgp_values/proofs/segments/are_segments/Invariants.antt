use Rattle.std.proofs.Common.{◌≡◌, length}
use Rattle.bgp_update.specs.Segments.{are_segments, number_width}
use Rattle.bgp_values.proofs.segments.are_segments.Given as goal

abbrev pub invariant-loop-others : goal.invariant-loop-others
invariant-loop-others l = are_segments 4 (number_width l.as4) l.rest ≡ are_segments 4 (number_width l.as4) l.octets

abbrev pub decreases-loop-others : goal.decreases-loop-others
decreases-loop-others l = length l.rest
