use Rattle.std.proofs.Common.{◌-◌, length}
use Rattle.bgp_orders.proofs.Tracks.{AreNotedSo}
use Rattle.bgp_orders.proofs.tracing.note.Given as goal

-- those that are noted so far
abbrev pub invariant-loop-origin : goal.invariant-loop-origin
invariant-loop-origin g l = AreNotedSo l.fn.origins.items l.origins.items l.base l.count l.origin

abbrev pub decreases-loop-origin : goal.decreases-loop-origin
decreases-loop-origin g l = l.count - (length l.origins.items - l.base)
