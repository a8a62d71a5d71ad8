use Rattle.std.proofs.Common.{◌≡◌, ◌≤◌, length, take}
use Rattle.streams.specs.Connections.{last_index}
use Rattle.bgp_recording.specs.Values.{values_of}
use Rattle.bgp_recording.specs.Waiting.{is_blamed}
use Rattle.bgp_recording.proofs.waiting.FirstNotification.cause.Given as goal

-- the last is among those left
abbrev pub invariant-loop-left : goal.invariant-loop-left
invariant-loop-left l = record {
  within : l.left ≤ length l.received;
  same : last_index (is_blamed l.self) (values_of (take l.left l.received)) ≡ last_index (is_blamed l.self) (values_of l.received);
}

abbrev pub decreases-loop-left : goal.decreases-loop-left
decreases-loop-left l = l.left
