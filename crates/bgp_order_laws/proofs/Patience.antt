-- A way is one with more patience.
use Rattle.std.proofs.Common.{◌≤◌, ℕ, List, [], ◌∷◌, arith}
use Rattle.bgp_recording.specs.declared.ordering.Exchange.{Exchange}
use Rattle.bgp_recording.specs.declared.state.State.{State}
use Rattle.bgp_recording.specs.Allowed.{EachMayPrecede, Ended, Item, MayPrecede, Received, Sent}
use Rattle.bgp_recording.specs.Tells.{Event, items_in}
use Rattle.bgp_recording.proofs.Lists.{all_weaker}
use Rattle.bgp_orders.specs.Ways.{IsWay}

may_more : (within more : ℕ) → within ≤ more → (first second : Item) → MayPrecede within first second → MayPrecede more first second
may_more within more le (Received r) (Received q) h = tt
may_more within more le (Received r) (Sent s) h = h
may_more within more le (Received r) (Ended e) h = h
may_more within more le (Sent s) (Received r) h = omega (arith, h, le)
may_more within more le (Sent s) (Sent t) h = tt
may_more within more le (Sent s) (Ended e) h = tt
may_more within more le (Ended e) (Received r) h = omega (arith, h, le)
may_more within more le (Ended e) (Sent s) h = h
may_more within more le (Ended e) (Ended f) h = tt

each_more : (within more : ℕ) → within ≤ more → (order : List Item) → EachMayPrecede within order → EachMayPrecede more order
each_more within more le [] h = tt
each_more within more le (item ∷ later) h =
    (all_weaker (MayPrecede within item) (MayPrecede more item) (λ x k. may_more within more le item x k) later h.0, each_more within more le later h.1)

pub way_more : (within more : ℕ) (exchange : Exchange) (start : State) (events : List Event) → within ≤ more → IsWay within exchange start events → IsWay more exchange start events
way_more within more exchange start events le way = record {
  starts = way.starts;
  allowed = record {
    of_received = way.allowed.of_received;
    of_sent = way.allowed.of_sent;
    of_end = way.allowed.of_end;
    each = each_more within more le (items_in events) way.allowed.each;
  };
  timed = way.timed;
}
