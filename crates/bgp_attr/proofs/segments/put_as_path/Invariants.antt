use Rattle.std.proofs.Common.{take, vec_len, vec_capacity}
use Rattle.std.specs.List.{flat_map}
use Rattle.bgp_attr.specs.Segments.{segment_octets}
use Rattle.bgp_attr.specs.Values.{wire_segment}
use Rattle.bgp_attr.proofs.Filled.{IsFilled}
use Rattle.bgp_attr.proofs.segments.put_as_path.Given as goal

abbrev pub invariant-loop-segment : goal.invariant-loop-segment
invariant-loop-segment g l =
    IsFilled l.initial.out.items (vec_len l.initial.out) (vec_capacity l.initial.out)
    (flat_map (λ s. segment_octets (wire_segment l.as4 s)) (take l.segment-index l.segments)) l.out.items (vec_len l.out) (vec_capacity l.out)
