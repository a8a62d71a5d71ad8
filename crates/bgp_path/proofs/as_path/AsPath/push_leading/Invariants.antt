use Rattle.std.proofs.Common.{◌≡◌, ◌++◌, drop}
use Rattle.bgp_path.specs.AsPath.{leading_part}
use Rattle.bgp_path.proofs.as_path.AsPath.push_leading.Given as goal

abbrev pub invariant-loop-segment : goal.invariant-loop-segment
invariant-loop-segment g l =
    l.self ++ leading_part (drop l.segment-index l.segments) l.left ≡ l.fn.self ++ leading_part l.segments l.count
