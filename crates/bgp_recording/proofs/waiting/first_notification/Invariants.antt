use Rattle.std.proofs.Common.{◌≡◌, drop}
use Rattle.bgp_recording.specs.Values.{values_of}
use Rattle.bgp_recording.specs.Waiting.{notification_from}
use Rattle.bgp_recording.proofs.waiting.first_notification.Given as goal

-- the first is among those left
abbrev pub invariant-loop-place : goal.invariant-loop-place
invariant-loop-place l =
    notification_from l.place (values_of (drop l.place l.sent)) ≡ notification_from 0 (values_of l.sent)
