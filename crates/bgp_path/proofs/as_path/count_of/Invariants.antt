use Rattle.std.proofs.Common.{◌≡◌, ◌≤◌, ◌*◌, take}
use Rattle.bgp_path.specs.AsPath.{count_of}
use Rattle.bgp_path.proofs.as_path.count_of.Given as goal

abbrev pub invariant-loop-segment : goal.invariant-loop-segment
invariant-loop-segment g l =
    (l.count ≡ count_of (take l.segment-index l.segments)) × (l.count ≤ 255 * l.segment-index)
