use Rattle.std.proofs.Common.{drop, map}
use Rattle.bgp_recording.specs.Tells.{numbered_of}
use Rattle.bgp_orders.specs.Entries.{AreUnderWay}
use Rattle.bgp_orders.proofs.Along.{LeadsOn}
use Rattle.bgp_orders.proofs.course.entries_along.Given as goal

-- the records so far are under way, and the steps that are left lead on from them
abbrev pub invariant-loop-step : goal.invariant-loop-step
invariant-loop-step g l = record {
  way : AreUnderWay l.search.within l.search.exchange l.fn.start l.course.spot (map numbered_of l.course.entries.items);
  along : LeadsOn l.search.config l.search.within l.search.exchange l.fn.start l.steps l.course.spot (map numbered_of l.course.entries.items) (drop l.step-index l.steps);
}
