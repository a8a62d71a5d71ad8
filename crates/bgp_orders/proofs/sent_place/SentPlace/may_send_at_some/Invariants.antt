use Rattle.std.proofs.Common.{take}
use Rattle.bgp_machine.specs.Lists.{Has}
use Rattle.bgp_orders.specs.SentPlaces.{Takes}
use Rattle.bgp_orders.proofs.sent_place.SentPlace.may_send_at_some.Given as goal

-- none of those so far takes them
abbrev pub invariant-loop-node : goal.invariant-loop-node
invariant-loop-node g l =
    Has (λ x. Takes l.self.search.config l.self.search.within l.self.search.exchange l.octets x) (take l.node-index l.nodes) → ⊥
