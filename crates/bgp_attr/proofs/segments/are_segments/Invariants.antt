use Rattle.std.proofs.Common.{◌≡◌, length}
use Rattle.bgp_attr.specs.Segments.{are_segments}
use Rattle.bgp_attr.proofs.segments.are_segments.Given as goal

abbrev pub invariant-loop-rest : goal.invariant-loop-rest
invariant-loop-rest l = are_segments l.most l.width l.rest ≡ are_segments l.most l.width l.value

abbrev pub decreases-loop-rest : goal.decreases-loop-rest
decreases-loop-rest l = length l.rest
