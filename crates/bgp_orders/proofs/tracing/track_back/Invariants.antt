use Rattle.std.proofs.Common.{◌<◌, length}
use Rattle.bgp_orders.proofs.Tracks.{IsWalkingBack}
use Rattle.bgp_orders.proofs.tracing.track_back.Given as goal

-- the steps so far, and those that are left
abbrev pub invariant-loop-start : goal.invariant-loop-start
invariant-loop-start g l = record {
  walks : IsWalkingBack l.origins l.last l.place l.steps.items;
  below : l.place < length l.origins;
}

abbrev pub decreases-loop-start : goal.decreases-loop-start
decreases-loop-start g l = l.place
