use Rattle.bgp_orders.proofs.Many.{AreRowsTo}
use Rattle.bgp_orders.proofs.sent_place.row_behind.Given as goal

-- the row is that of so many sent messages; and so many nodes are in the rows up to it
abbrev pub invariant-loop-count : goal.invariant-loop-count
invariant-loop-count g l = AreRowsTo l.search.config l.search.within l.search.exchange l._count l.nodes l.row.items
