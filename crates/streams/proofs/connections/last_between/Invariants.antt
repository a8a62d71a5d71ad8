use Rattle.std.proofs.Common.{◌≡◌, ◌≤◌, length, take}
use Rattle.streams.specs.Passed.{segment_of}
use Rattle.streams.specs.Connections.{last_index}
use Rattle.streams.specs.Held.{passes}
use Rattle.streams.proofs.connections.last_between.Given as goal

-- the last is among those left
abbrev pub invariant-loop-left : goal.invariant-loop-left
invariant-loop-left g l = record {
  within : l.left ≤ length l.list;
  same : last_index (passes (segment_of l.passed)) (take l.left l.list) ≡ last_index (passes (segment_of l.passed)) l.list;
}

abbrev pub decreases-loop-left : goal.decreases-loop-left
decreases-loop-left g l = l.left
