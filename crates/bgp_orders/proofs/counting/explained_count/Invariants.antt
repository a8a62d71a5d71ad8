use Rattle.bgp_orders.proofs.Many.{AreRowsSo}
use Rattle.bgp_orders.proofs.counting.explained_count.Given as goal

-- the row is that of so many sent messages, and as many are explained; and so many nodes are in the
-- rows up to it
abbrev pub invariant-loop-count : goal.invariant-loop-count
invariant-loop-count g l = AreRowsSo l.config l.within l.exchange l.count l.nodes l.row.items
