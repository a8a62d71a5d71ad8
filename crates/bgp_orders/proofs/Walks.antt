-- Walks are the orders that are allowed.
use Rattle.std.proofs.Common.{◌≡◌, ◌<◌, ◌≤◌, ◌+◌, ℕ, List, [], ◌∷◌, Option, None, Some, IfSome, refl, sym, ap, subst, ◌∙◌, arith}
use Rattle.std.specs.List.{AllByRecursion}
use Rattle.streams.specs.declared.connection.End.{End}
use Rattle.streams.specs.declared.passed.Side.TheVariants.{Local}
use Rattle.bgp_recording.specs.declared.message.Message.{Message}
use Rattle.bgp_recording.specs.Allowed.{Item, Received, Sent, Ended, received_in, sent_in, ends_in, ends_of, MayPrecede, IsAllowed}
use Rattle.bgp_recording.specs.Told.{AreClocked, IsClock, GoesBy, Rises, IsLast}
use Rattle.bgp_recording.proofs.Lists.{all_weaker}
use Rattle.bgp_recording.proofs.Orders.{allowed_received, allowed_sent, allowed_end, not_later}
use Rattle.bgp_recording.specs.Leads.{IfFirst, MayPass}
use Rattle.bgp_orders.specs.Walks.{IsWalk, WalksAreOrders, OrdersAreWalks}

-- ---- from the next one to all that is left

pub before_all : (m : Message) (ss : List Message) → IfFirst ss (λ s. m.packet < s.packet) → Rises ss → AllByRecursion (λ s. m.packet < s.packet) ss
before_all m [] h rises = tt
before_all m (s ∷ ss) h rises = (h, all_weaker (λ n. s.packet ≤ n.packet) (λ n. m.packet < n.packet) (λ n k. omega (arith, h, k)) ss rises.0)

later_all : (within second : ℕ) (clock : ℕ → ℕ) (r : Message) (rs : List Message) → IsClock clock → GoesBy clock r → second ≤ r.second + within
    → AllByRecursion (GoesBy clock) rs → AllByRecursion (λ q. r.packet ≤ q.packet) rs → AllByRecursion (λ q. second ≤ q.second + within) rs
later_all within second clock r [] clocked by h all rises = tt
later_all within second clock r (q ∷ rs) clocked by h all rises = (
  omega (arith, h, not_later clock r.packet r.second q.packet q.second clocked by all.0 rises.0),
  later_all within second clock r rs clocked by h all.1 rises.1,
)

passed_all : (within second : ℕ) (clock : ℕ → ℕ) (rs : List Message) → IsClock clock → AllByRecursion (GoesBy clock) rs → Rises rs → MayPass within second rs
    → AllByRecursion (λ r. second ≤ r.second + within) rs
passed_all within second clock [] clocked by rises h = tt
passed_all within second clock (r ∷ rs) clocked by rises h = (h, later_all within second clock r rs clocked by.0 h by.1 rises.0)

last_tail : (m : Message) (ss : List Message) (end : Option End) → IfSome end (IsLast (m ∷ ss)) → IfSome end (IsLast ss)
last_tail m ss None h = tt
last_tail m ss (Some e) h = λ own. (h own).1

-- what is left behind an item goes by the clock
pub clocked_received : (clock : ℕ → ℕ) (m : Message) (rs ss : List Message) (end : Option End) → AreClocked clock (m ∷ rs) ss end → AreClocked clock rs ss end
clocked_received clock m rs ss end c = record {
  clocked = c.clocked;
  received_by = c.received_by.1;
  sent_by = c.sent_by;
  end_by = c.end_by;
  received_rise = c.received_rise.1;
  sent_rise = c.sent_rise;
  sent_last = c.sent_last;
}

pub clocked_sent : (clock : ℕ → ℕ) (m : Message) (rs ss : List Message) (end : Option End) → AreClocked clock rs (m ∷ ss) end → AreClocked clock rs ss end
clocked_sent clock m rs ss end c = record {
  clocked = c.clocked;
  received_by = c.received_by;
  sent_by = c.sent_by.1;
  end_by = c.end_by;
  received_rise = c.received_rise;
  sent_rise = c.sent_rise.1;
  sent_last = last_tail m ss end c.sent_last;
}

pub clocked_end : (clock : ℕ → ℕ) (rs ss : List Message) (end : Option End) → AreClocked clock rs ss end → AreClocked clock rs ss None
clocked_end clock rs ss end c = record {
  clocked = c.clocked;
  received_by = c.received_by;
  sent_by = c.sent_by;
  end_by = tt;
  received_rise = c.received_rise;
  sent_rise = c.sent_rise;
  sent_last = tt;
}

nothing_allowed : (within : ℕ) → IsAllowed within [] [] None []
nothing_allowed within = record { of_received = refl; of_sent = refl; of_end = refl; each = tt }

walk_order : (within : ℕ) (clock : ℕ → ℕ) (rs ss : List Message) (end : Option End) (order : List Item) → AreClocked clock rs ss end
    → IsWalk within rs ss end order → IsAllowed within rs ss end order
walk_order within clock rs ss end [] c w =
    subst (λ (v : List Message). IsAllowed within v ss end []) (sym w.0)
    (subst (λ (v : List Message). IsAllowed within [] v end []) (sym w.1)
    (subst (λ (v : Option End). IsAllowed within [] [] v []) (sym w.2) (nothing_allowed within)))
walk_order within clock rs ss end (Received m ∷ later) c w =
    let c2 : AreClocked clock (m ∷ w.0) ss end = subst (λ (v : List Message). AreClocked clock v ss end) w.1 c in
    let all = walk_order within clock w.0 ss end later (clocked_received clock m w.0 ss end c2) w.3 in
    subst (λ (v : List Message). IsAllowed within v ss end (Received m ∷ later)) (sym w.1)
    (allowed_received within m w.0 ss end later (before_all m ss w.2.0 c.sent_rise) w.2.1 all)
walk_order within clock rs ss end (Sent m ∷ later) c w =
    let c2 : AreClocked clock rs (m ∷ w.0) end = subst (λ (v : List Message). AreClocked clock rs v end) w.1 c in
    let all = walk_order within clock rs w.0 end later (clocked_sent clock m rs w.0 end c2) w.3 in
    subst (λ (v : List Message). IsAllowed within rs v end (Sent m ∷ later)) (sym w.1)
    (allowed_sent within m rs w.0 end later (passed_all within m.second clock rs c.clocked c.received_by c.received_rise w.2) all)
walk_order within clock rs ss end (Ended e ∷ later) c w =
    let c2 : AreClocked clock rs [] None = subst (λ (v : List Message). AreClocked clock rs v None) w.1 (clocked_end clock rs ss end c) in
    let all : IsAllowed within rs [] None later = walk_order within clock rs [] None later c2 (subst (λ (v : List Message). IsWalk within rs v None later) w.1 w.3) in
    subst (λ (v : List Message). IsAllowed within rs v end (Ended e ∷ later)) (sym w.1)
    (subst (λ (v : Option End). IsAllowed within rs [] v (Ended e ∷ later)) (sym w.0)
    (allowed_end within e rs later (passed_all within e.second clock rs c.clocked c.received_by c.received_rise w.2) all))

pub walks_are_orders : WalksAreOrders
walks_are_orders = walk_order

-- ---- from all that is left to the next one

-- the first received message of an order has what each of its items has
first_received : (P : Item → Type 0) (order : List Item) → AllByRecursion P order → IfFirst (received_in order) (λ r. P (Received r))
first_received P [] all = tt
first_received P (Received m ∷ later) all = all.0
first_received P (Sent m ∷ later) all = first_received P later all.1
first_received P (Ended e ∷ later) all = first_received P later all.1

first_sent : (P : Item → Type 0) (order : List Item) → AllByRecursion P order → IfFirst (sent_in order) (λ s. P (Sent s))
first_sent P [] all = tt
first_sent P (Received m ∷ later) all = first_sent P later all.1
first_sent P (Sent m ∷ later) all = all.0
first_sent P (Ended e ∷ later) all = first_sent P later all.1

all_ends : (P : Item → Type 0) (order : List Item) → AllByRecursion P order → AllByRecursion (λ e. P (Ended e)) (ends_in order)
all_ends P [] all = tt
all_ends P (Received m ∷ later) all = all_ends P later all.1
all_ends P (Sent m ∷ later) all = all_ends P later all.1
all_ends P (Ended e ∷ later) all = (all.0, all_ends P later all.1)

some_end : (P : End → Type 0) (end : Option End) → AllByRecursion P (ends_of end) → IfSome end P
some_end P None all = tt
some_end P (Some e) all = all.0

no_sent : (within : ℕ) (e : End) (order : List Item) → AllByRecursion (MayPrecede within (Ended e)) order → sent_in order ≡ []
no_sent within e [] all = refl
no_sent within e (Received m ∷ later) all = no_sent within e later all.1
no_sent within e (Sent m ∷ later) all = absurd all.0
no_sent within e (Ended f ∷ later) all = no_sent within e later all.1

nothing_ends : (end : Option End) → [] ≡ ends_of end → end ≡ None
nothing_ends None h = refl
nothing_ends (Some e) h = absurd cc

one_end : (e : End) (later : List End) (end : Option End) → e ∷ later ≡ ends_of end → (end ≡ Some e) × (later ≡ [])
one_end e later None h = absurd cc
one_end e later (Some f) h = (let k : f ≡ e = cc in ap (λ (v : End). Some v) k, cc)

order_walk : (within : ℕ) (rs ss : List Message) (end : Option End) (order : List Item) → IsAllowed within rs ss end order → IsWalk within rs ss end order
order_walk within rs ss end [] a = (sym a.of_received, sym a.of_sent, nothing_ends end a.of_end)
order_walk within rs ss end (Received m ∷ later) a =
    let all = a.each.0 in (
      received_in later,
      sym a.of_received,
      (
        subst (λ (v : List Message). IfFirst v (λ s. m.packet < s.packet)) a.of_sent (first_sent (MayPrecede within (Received m)) later all),
        some_end (λ e. e.side ≡ Local → m.packet ≤ e.packet) end
            (subst (λ (v : List End). AllByRecursion (λ e. e.side ≡ Local → m.packet ≤ e.packet) v) a.of_end (all_ends (MayPrecede within (Received m)) later all)),
      ),
      order_walk within (received_in later) ss end later (record { of_received = refl; of_sent = a.of_sent; of_end = a.of_end; each = a.each.1 }),
    )
order_walk within rs ss end (Sent m ∷ later) a =
    let all = a.each.0 in (
      sent_in later,
      sym a.of_sent,
      subst (λ (v : List Message). MayPass within m.second v) a.of_received (first_received (MayPrecede within (Sent m)) later all),
      order_walk within rs (sent_in later) end later (record { of_received = a.of_received; of_sent = refl; of_end = a.of_end; each = a.each.1 }),
    )
order_walk within rs ss end (Ended e ∷ later) a =
    let all = a.each.0 in
    let k = one_end e (ends_in later) end a.of_end in (
      k.0,
      sym a.of_sent ∙ no_sent within e later all,
      subst (λ (v : List Message). MayPass within e.second v) a.of_received (first_received (MayPrecede within (Ended e)) later all),
      order_walk within rs ss None later (record { of_received = a.of_received; of_sent = a.of_sent; of_end = k.1; each = a.each.1 }),
    )

pub orders_are_walks : OrdersAreWalks
orders_are_walks = order_walk
