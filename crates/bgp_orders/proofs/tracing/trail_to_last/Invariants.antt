use Rattle.bgp_orders.proofs.Tracks.{IsTracing}
use Rattle.bgp_orders.proofs.tracing.trail_to_last.Given as goal

-- the row is that of so many sent messages, and the trail ends with it
abbrev pub invariant-loop-count : goal.invariant-loop-count
invariant-loop-count g l =
    IsTracing l.search.config l.search.within l.search.exchange l._count l.before l.origins.items l.row.items
