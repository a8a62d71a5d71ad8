use Rattle.std.proofs.Common.{◌≡◌, ◌≤◌, ◌<◌, ◌-◌, ℕ, List, []}
use Rattle.bgp_prefix.specs.Shown.{ShownRecord}
use Rattle.bgp_open.specs.declared.config.Config.{Config}
use Rattle.bgp_open.specs.Written.{notification_octets}
use Rattle.bgp_reason.specs.Asked.{MayExpire}
use Rattle.bgp_reason.proofs.asking.least_expiry.Given as goal

-- it may at the upper bound, and at no second below the lower one
abbrev pub invariant-loop-low : goal.invariant-loop-low
invariant-loop-low g l = record {
  octets : l.octets.items ≡ notification_octets 4 0 [];
  order : l.low ≤ l.high;
  bounds : (config : Config) (records : List ShownRecord) → g.T.Tracker.stands_for l.tracker config records
      → MayExpire config records l.high × ((second : ℕ) → second < l.low → ¬ MayExpire config records second);
}

abbrev pub decreases-loop-low : goal.decreases-loop-low
decreases-loop-low g l = l.high - l.low
