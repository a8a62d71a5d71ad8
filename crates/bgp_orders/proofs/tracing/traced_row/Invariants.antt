use Rattle.std.proofs.Common.{◌+◌, ◌-◌, length}
use Rattle.bgp_orders.proofs.Tracks.{IsTracingSo}
use Rattle.bgp_orders.proofs.tracing.traced_row.Given as goal

-- the row so far, with its trail
abbrev pub invariant-loop-passed : goal.invariant-loop-passed
invariant-loop-passed g l =
    IsTracingSo l.search.config l.search.within l.search.exchange l.row l.before l.fn.first.items l.base l.passed l.heard l.origins.items l.next.items

-- each time one of the two counts grows, the second no further than the most nodes
abbrev pub decreases-loop-passed : goal.decreases-loop-passed
decreases-loop-passed g l = (length l.row - l.passed) + (1048577 - (l.base + l.heard))
