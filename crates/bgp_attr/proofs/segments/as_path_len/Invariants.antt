use Rattle.std.proofs.Common.{◌≡◌, ◌≤◌, ◌*◌, length, take}
use Rattle.bgp_attr.specs.Values.{as_path_octets}
use Rattle.bgp_attr.proofs.segments.as_path_len.Given as goal

abbrev pub invariant-loop-segment : goal.invariant-loop-segment
invariant-loop-segment g l =
    (l.len ≡ length (as_path_octets l.as4 (take l.segment-index l.segments))) × (l.len ≤ 1022 * l.segment-index)
