use Rattle.std.proofs.Common.{◌≡◌, ◌++◌, length, true}
use Rattle.bgp_attr.specs.PathIn.{path_in}
use Rattle.bgp_attr.specs.Segments.{are_segments, number_width}
use Rattle.bgp_attr.proofs.segments.read_as_path.Given as goal

abbrev pub invariant-loop-rest : goal.invariant-loop-rest
invariant-loop-rest g l = record {
  so_far : l.path ++ path_in (number_width l.as4) l.rest ≡ path_in (number_width l.as4) l.value;
  whole : are_segments 4 (number_width l.as4) l.rest ≡ true;
}

abbrev pub decreases-loop-rest : goal.decreases-loop-rest
decreases-loop-rest g l = length l.rest
