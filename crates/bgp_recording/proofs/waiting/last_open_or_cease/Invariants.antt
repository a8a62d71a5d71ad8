use Rattle.std.proofs.Common.{◌≡◌, ◌≤◌, length, take}
use Rattle.streams.specs.Connections.{last_index}
use Rattle.bgp_recording.specs.Values.{values_of}
use Rattle.bgp_recording.specs.Waiting.{is_open_or_cease}
use Rattle.bgp_recording.proofs.waiting.last_open_or_cease.Given as goal

-- the last is among those left
abbrev pub invariant-loop-left : goal.invariant-loop-left
invariant-loop-left l = record {
  within : l.left ≤ length l.sent;
  same : last_index is_open_or_cease (values_of (take l.left l.sent)) ≡ last_index is_open_or_cease (values_of l.sent);
}

abbrev pub decreases-loop-left : goal.decreases-loop-left
decreases-loop-left l = l.left
