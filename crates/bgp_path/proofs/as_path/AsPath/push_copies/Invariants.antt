use Rattle.std.proofs.Common.{◌≡◌, ◌++◌, take}
use Rattle.bgp_path.proofs.as_path.AsPath.push_copies.Given as goal

abbrev pub invariant-loop-segment : goal.invariant-loop-segment
invariant-loop-segment g l = l.self ≡ l.fn.self ++ take l.segment-index l.segments
