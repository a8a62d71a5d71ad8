use Rattle.std.proofs.Common.{◌≡◌, map, take}
use Rattle.bgp_orders.specs.Tracks.{start_of}
use Rattle.bgp_orders.proofs.tracing.first_origins.Given as goal

-- those of the nodes so far
abbrev pub invariant-loop-node : goal.invariant-loop-node
invariant-loop-node g l = l.origins.items ≡ map start_of (take l.node-index l.nodes)
