use Rattle.std.proofs.Common.{◌+◌, ◌-◌, length}
use Rattle.bgp_orders.proofs.Many.{IsGrowingSo}
use Rattle.bgp_orders.proofs.search.Search.next_row.Given as goal

-- the row so far: what the nodes behind both counts become is in it, and it is tidy
abbrev pub invariant-loop-passed : goal.invariant-loop-passed
invariant-loop-passed g l =
    IsGrowingSo l.self.config l.self.within l.self.exchange l.row l.fn.first.items l.passed l.heard l.next.items

-- each time one of the two counts grows, the second no further than the most nodes
abbrev pub decreases-loop-passed : goal.decreases-loop-passed
decreases-loop-passed g l = (length l.row - l.passed) + (l.most - l.heard)
