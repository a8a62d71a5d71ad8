use Rattle.bgp_compact.proofs.WholeTracker.{same_tracker}
use Rattle.bgp_compact.proofs.laws.trackers_hold_their_parts_alone.Goals as goal

pub returns : goal.returns
returns g c = same_tracker c.args.tracker.now c.args.other.now
