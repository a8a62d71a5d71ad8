-- What is explained is what nodes are reached for.
use Rattle.std.proofs.Common.{◌≡◌, ◌<◌, ◌≤◌, ◌++◌, ℕ, List, [], ◌∷◌, Option, None, length, max, refl, sym, ap, subst, ◌∙◌, arith, append-nil}
use Rattle.std.proofs.Math.Nat.{le-max_right, max-le}
use Rattle.std.specs.List.{AllByRecursion}
use Rattle.bgp_prefix.specs.Shown.{ShownRecord}
use Rattle.streams.specs.declared.connection.End.{End as TheEnd}
use Rattle.bgp_open.specs.declared.config.Config.{Config}
use Rattle.bgp_machine.specs.Owed.{EachOwedCanBeMet}
use Rattle.bgp_machine.specs.Run.{Begins, End, IsComplete, end_of}
use Rattle.bgp_machine.specs.State.{fsm_of}
use Rattle.bgp_recording.specs.declared.message.Message.{Message}
use Rattle.bgp_recording.specs.declared.ordering.Exchange.{Exchange}
use Rattle.bgp_recording.specs.declared.standing.Before.TheVariants.{Other}
use Rattle.bgp_recording.specs.declared.state.State.{State}
use Rattle.bgp_recording.specs.Allowed.{Item, Received, Sent, Ended, sent_in, IsAllowed}
use Rattle.bgp_recording.specs.Changes.{just_received, just_sent, are_left, state_then}
use Rattle.bgp_recording.specs.Leads.{MayReceive}
use Rattle.bgp_recording.specs.Tells.{Event, Passed, AreTimed, items_in}
use Rattle.bgp_recording.specs.Told.{AreClocked, IsClock, GoesBy, IsTold}
use Rattle.bgp_recording.proofs.Lists.{all_weaker}
use Rattle.bgp_recording.proofs.Orders.{not_later}
use Rattle.bgp_judge.specs.Chains.{bare, BareReaches}
use Rattle.bgp_judge.specs.Member.{Member, IsFree, fresh_member}
use Rattle.bgp_judge.proofs.Chains.{begins_by_chains, ends_by_chains, bare_chains}
use Rattle.bgp_orders.specs.Nodes.{Node, first_node, led_in, led_out, after_received, after_sent, after_end, Goes, ExplainedIsReached, ReachedIsExplained, WholeIsReached, ReachedIsWhole}
use Rattle.bgp_orders.specs.Walks.{IsWalk}
use Rattle.bgp_orders.specs.Ways.{SomeWay, received_records, sent_records, end_records, state_after_end, records_in, records_of_front, records_of_way}
use Rattle.bgp_orders.proofs.Fronts.{by_received, by_end, by_front, walk_received, walk_sent}
use Rattle.bgp_orders.proofs.GoesOn.{walks_go_on}
use Rattle.bgp_orders.proofs.Walks.{before_all, clocked_received, clocked_sent, clocked_end, walks_are_orders, orders_are_walks}
use Rattle.bgp_orders.proofs.Ways.{join}

-- ---- seconds

later_seconds : (clock : ℕ → ℕ) (x : Message) (ss : List Message) → IsClock clock → GoesBy clock x → AllByRecursion (GoesBy clock) ss
    → AllByRecursion (λ s. x.packet ≤ s.packet) ss → AllByRecursion (λ s. x.second ≤ s.second) ss
later_seconds clock x [] clocked by all le = tt
later_seconds clock x (s ∷ ss) clocked by all le =
    (not_later clock x.packet x.second s.packet s.second clocked by all.0 le.0, later_seconds clock x ss clocked by all.1 le.1)

greater : (a b : ℕ) (ss : List Message) → AllByRecursion (λ s. a ≤ s.second) ss → AllByRecursion (λ s. b ≤ s.second) ss → AllByRecursion (λ s. max a b ≤ s.second) ss
greater a b [] h k = tt
greater a b (s ∷ ss) h k = (max-le h.0 k.0, greater a b ss h.1 k.1)

no_less : (a b : ℕ) → b ≤ max a b
no_less a b = le-max_right a b

behind_received : (clock : ℕ → ℕ) (at : ℕ) (x : Message) (rs ss : List Message) (end : Option TheEnd) → AreClocked clock (x ∷ rs) ss end → MayReceive x ss end
    → AllByRecursion (λ s. at ≤ s.second) ss → AllByRecursion (λ s. max x.second at ≤ s.second) ss
behind_received clock at x rs ss end c may bound =
    greater x.second at ss
    (later_seconds clock x ss c.clocked c.received_by.0 c.sent_by
    (all_weaker (λ s. x.packet < s.packet) (λ s. x.packet ≤ s.packet) (λ s h. omega (arith, h)) ss (before_all x ss may.0 c.sent_rise)))
    bound

behind_sent : (clock : ℕ → ℕ) (x : Message) (rs ss : List Message) (end : Option TheEnd) → AreClocked clock rs (x ∷ ss) end → AllByRecursion (λ s. x.second ≤ s.second) ss
behind_sent clock x rs ss end c = later_seconds clock x ss c.clocked c.sent_by.0 c.sent_by.1 c.sent_rise.0

none_left : (at : ℕ) (ss : List Message) → ss ≡ [] → AllByRecursion (λ s. at ≤ s.second) ss
none_left at ss e = subst (λ (v : List Message). AllByRecursion (λ s. at ≤ s.second) v) (sym e) tt

-- a walk has its seconds
pub timed_walk : (within : ℕ) (clock : ℕ → ℕ) (order : List Item) (at : ℕ) (rs ss : List Message) (end : Option TheEnd) → AreClocked clock rs ss end
    → AllByRecursion (λ s. at ≤ s.second) ss → IsWalk within rs ss end order → (events : List Event) × (items_in events ≡ order) × AreTimed at events
timed_walk within clock [] at rs ss end c bound w = ([], refl, tt)
timed_walk within clock (Received x ∷ later) at rs ss end c bound w =
    let c2 : AreClocked clock (x ∷ w.0) ss end = subst (λ (v : List Message). AreClocked clock v ss end) w.1 c in
    let k = timed_walk within clock later (max x.second at) w.0 ss end (clocked_received clock x w.0 ss end c2) (behind_received clock at x w.0 ss end c2 w.2 bound) w.3 in
    (Passed (max x.second at) (Received x) ∷ k.0, ap (λ (v : List Item). Received x ∷ v) k.1, (no_less x.second at, refl, k.2))
timed_walk within clock (Sent x ∷ later) at rs ss end c bound w =
    let c2 : AreClocked clock rs (x ∷ w.0) end = subst (λ (v : List Message). AreClocked clock rs v end) w.1 c in
    let b2 = subst (λ (v : List Message). AllByRecursion (λ s. at ≤ s.second) v) w.1 bound in
    let k = timed_walk within clock later x.second rs w.0 end (clocked_sent clock x rs w.0 end c2) (behind_sent clock x rs w.0 end c2) w.3 in
    (Passed x.second (Sent x) ∷ k.0, ap (λ (v : List Item). Sent x ∷ v) k.1, (b2.0, refl, k.2))
timed_walk within clock (Ended e ∷ later) at rs ss end c bound w =
    let k = timed_walk within clock later (max e.second at) rs ss None (clocked_end clock rs ss end c) (none_left (max e.second at) ss w.1) w.3 in
    (Passed (max e.second at) (Ended e) ∷ k.0, ap (λ (v : List Item). Ended e ∷ v) k.1, (no_less e.second at, refl, k.2))

first_seconds : (clock : ℕ → ℕ) (packet second : ℕ) (ss : List Message) → IsClock clock → second ≡ clock packet → AllByRecursion (GoesBy clock) ss
    → AllByRecursion (λ s. packet ≤ s.packet) ss → AllByRecursion (λ s. second ≤ s.second) ss
first_seconds clock packet second [] clocked is all le = tt
first_seconds clock packet second (s ∷ ss) clocked is all le =
    (not_later clock packet second s.packet s.second clocked is all.0 le.0, first_seconds clock packet second ss clocked is all.1 le.1)

-- no sent message comes before the first packet
pub told_seconds : (exchange : Exchange) → IsTold exchange → AllByRecursion (λ s. exchange.second ≤ s.second) exchange.sent.now
told_seconds exchange told =
    first_seconds told.clock exchange.packet exchange.second exchange.sent.now told.go_by.clocked told.begins told.go_by.sent_by told.first

-- ---- an order with its seconds that begins with the items that lead to a node

-- what is left at a node goes by the clock, and no sent message comes before the item before
pub record IsTimed (clock : ℕ → ℕ) (n : Node) : Type 0 where
  pub clocked : AreClocked clock n.received n.sent n.end
  pub bound : AllByRecursion (λ s. n.last ≤ s.second) n.sent

-- an order goes on from the node
abbrev pub GoesOn : ℕ → (List Item → Type 0) → Node → Type 0
GoesOn within P n = (order : List Item) × IsWalk within n.received n.sent n.end order × P order

pub record IsBuilt (config : Config) (within : ℕ) (P : List Item → Type 0) (order : List Item) (n n2 : Node) : Type 0 where
  pub front : List Event
  pub later : List Event
  pub walk : IsWalk within n.received n.sent n.end (items_in (front ++ later))
  pub timed : AreTimed n.last (front ++ later)
  pub items : items_in front ≡ order
  pub ends : P (items_in later)
  pub reaches : BareReaches config n.member (records_in n.state n.before front later) n2.member

build_here : (config : Config) (within : ℕ) (clock : ℕ → ℕ) (P : List Item → Type 0) (n : Node) → IsTimed clock n → GoesOn within P n → IsBuilt config within P [] n n
build_here config within clock P n c go =
    let t = timed_walk within clock go.0 n.last n.received n.sent n.end c.clocked c.bound go.1 in
    record {
      front = [];
      later = t.0;
      walk = subst (λ (v : List Item). IsWalk within n.received n.sent n.end v) (sym t.1) go.1;
      timed = t.2;
      items = refl;
      ends = subst P (sym t.1) go.2;
      reaches = refl;
    }

pub build : (config : Config) (within : ℕ) (clock : ℕ → ℕ) (P : List Item → Type 0) (order : List Item) (n n2 : Node) → IsTimed clock n → (IsTimed clock n2 → GoesOn within P n2)
    → Goes config within n order n2 → IsBuilt config within P order n n2
build config within clock P [] n n2 c go e =
    let c2 : IsTimed clock n2 = subst (λ (v : Node). IsTimed clock v) e c in
    subst (λ (v : Node). IsBuilt config within P [] v n2) (sym e) (build_here config within clock P n2 c2 (go c2))
build config within clock P (Received x ∷ order) n n2 c go k =
    let h = k.1 in
    let mid : Node = after_received n x h.0 h.3 in
    let c2 : AreClocked clock (x ∷ h.0) n.sent n.end = subst (λ (v : List Message). AreClocked clock v n.sent n.end) h.1 c.clocked in
    let b = build config within clock P order mid n2
    (record { clocked = clocked_received clock x h.0 n.sent n.end c2; bound = behind_received clock n.last x h.0 n.sent n.end c2 h.2 c.bound })
    go (subst (λ (v : Node). Goes config within v order n2) h.5 k.2) in
    let Then : List Message → Type 0 = λ ss. BareReaches config n.member (by_received n x b.front b.later (max x.second n.last) ss) n2.member in
    let led = led_in n x in
    let there : Then n.sent = join config n.member h.3 n2.member (received_records (max x.second n.last) n.state led x)
    (records_in (state_then n.state led) (just_received x.kind) b.front b.later) h.4 b.reaches in
    record {
      front = Passed (max x.second n.last) (Received x) ∷ b.front;
      later = b.later;
      walk = (h.0, h.1, h.2, b.walk);
      timed = (no_less x.second n.last, refl, b.timed);
      items = ap (λ (v : List Item). Received x ∷ v) b.items;
      ends = b.ends;
      reaches = subst Then (sym (walk_sent within h.0 n.sent n.end (items_in (b.front ++ b.later)) b.walk)) there;
    }
build config within clock P (Sent x ∷ order) n n2 c go k =
    let h = k.1 in
    let mid : Node = after_sent n x h.0 h.3 in
    let c2 : AreClocked clock n.received (x ∷ h.0) n.end = subst (λ (v : List Message). AreClocked clock n.received v n.end) h.1 c.clocked in
    let b2 = subst (λ (v : List Message). AllByRecursion (λ s. n.last ≤ s.second) v) h.1 c.bound in
    let b = build config within clock P order mid n2
    (record { clocked = clocked_sent clock x n.received h.0 n.end c2; bound = behind_sent clock x n.received h.0 n.end c2 })
    go (subst (λ (v : Node). Goes config within v order n2) h.5 k.2) in
    let led = led_out n x in
    record {
      front = Passed x.second (Sent x) ∷ b.front;
      later = b.later;
      walk = (h.0, h.1, h.2, b.walk);
      timed = (b2.0, refl, b.timed);
      items = ap (λ (v : List Item). Sent x ∷ v) b.items;
      ends = b.ends;
      reaches = join config n.member h.3 n2.member (sent_records x.second n.state led x)
          (records_in (state_then n.state led) (just_sent n.state x.kind n.before) b.front b.later) h.4 b.reaches;
    }
build config within clock P (Ended e ∷ order) n n2 c go k =
    let h = k.1 in
    let mid : Node = after_end n e h.3 in
    let b = build config within clock P order mid n2
    (record { clocked = clocked_end clock n.received n.sent n.end c.clocked; bound = none_left (max e.second n.last) n.sent h.1 })
    go (subst (λ (v : Node). Goes config within v order n2) h.5 k.2) in
    let Then : List Message → Type 0 = λ rs. BareReaches config n.member (by_end n b.front b.later (max e.second n.last) rs) n2.member in
    let left = are_left n.received in
    let there : Then n.received = join config n.member h.3 n2.member (end_records (max e.second n.last) n.state left)
    (records_in (state_after_end n.state left) Other b.front b.later) h.4 b.reaches in
    record {
      front = Passed (max e.second n.last) (Ended e) ∷ b.front;
      later = b.later;
      walk = (h.0, h.1, h.2, b.walk);
      timed = (no_less e.second n.last, refl, b.timed);
      items = ap (λ (v : List Item). Ended e ∷ v) b.items;
      ends = b.ends;
      reaches = subst Then (sym (walk_received within n.received n.sent None (items_in (b.front ++ b.later)) b.walk)) there;
    }

-- ---- chains without routes from the fresh member

pub from_begins : EachOwedCanBeMet → (config : Config) (records : List ShownRecord) → Begins config records → (m : Member) × BareReaches config fresh_member records m
from_begins law config records begins =
    let k = (begins_by_chains law config records).0 begins in
    (bare k.0, (bare_chains config records fresh_member (bare k.0)).1 (k.0, k.1, refl))

pub to_begins : EachOwedCanBeMet → (config : Config) (records : List ShownRecord) (m : Member) → BareReaches config fresh_member records m → Begins config records
to_begins law config records m k =
    let x = (bare_chains config records fresh_member m).0 k in
    (begins_by_chains law config records).1 (x.0, x.1)

from_complete : EachOwedCanBeMet → (config : Config) (records : List ShownRecord) (e : End) → IsComplete config records e
    → (m : Member) × BareReaches config fresh_member records m × IsFree m × (fsm_of m.state.head ≡ e.fsm)
from_complete law config records e complete =
    let k = (ends_by_chains law config records e).0 complete in
    (bare k.0, (bare_chains config records fresh_member (bare k.0)).1 (k.0, k.1, refl), k.2, ap (λ (v : End). v.fsm) k.3)

pub to_complete : EachOwedCanBeMet → (config : Config) (records : List ShownRecord) (m : Member) → BareReaches config fresh_member records m → IsFree m
    → (e : End) × IsComplete config records e × (e.fsm ≡ fsm_of m.state.head)
to_complete law config records m k free =
    let x = (bare_chains config records fresh_member m).0 k in
    let is : IsFree x.0 = (ap (λ (v : Member). v.wants) x.2 ∙ free.0, ap (λ (v : Member). v.change) x.2 ∙ free.1) in (
      end_of x.0.state,
      (ends_by_chains law config records (end_of x.0.state)).1 (x.0, x.1, is, refl),
      ap (λ (v : Member). fsm_of v.state.head) x.2,
    )

-- ---- the laws

pub explained_is_reached : EachOwedCanBeMet → ExplainedIsReached
explained_is_reached law config within exchange count x =
    let k = from_begins law config (records_of_front exchange.second x.start x.front x.later) x.begins in
    let first : Node = first_node exchange x.start k.1.0 in
    let w = orders_are_walks within exchange.received.now exchange.sent.now exchange.end (items_in (x.front ++ x.later)) x.way.allowed in
    let r = by_front config within x.front x.later first k.0 w x.way.timed k.1.2 in
    (r.0, (items_in x.front, (first, (x.start, x.way.starts, k.1.0, k.1.1, refl), r.1), x.counts))

-- the node at which an exchange begins goes by its clock
pub first_timed : (exchange : Exchange) (start : State) (m : Member) (told : IsTold exchange) → IsTimed told.clock (first_node exchange start m)
first_timed exchange start m told = record { clocked = told.go_by; bound = told_seconds exchange told }

-- an order that the packets allow
abbrev pub IsAllowedFor : ℕ → Exchange → List Item → Type 0
IsAllowedFor within exchange order = IsAllowed within exchange.received.now exchange.sent.now exchange.end order

pub built_way : (config : Config) (within : ℕ) (exchange : Exchange) (P : List Item → Type 0) (order : List Item) (start : State) (m : Member) (n2 : Node) (told : IsTold exchange)
    → (b : IsBuilt config within P order (first_node exchange start m) n2)
    → IsAllowedFor within exchange (items_in (b.front ++ b.later))
built_way config within exchange P order start m n2 told b =
    walks_are_orders within told.clock exchange.received.now exchange.sent.now exchange.end (items_in (b.front ++ b.later)) told.go_by b.walk

pub reached_is_explained : EachOwedCanBeMet → ReachedIsExplained
reached_is_explained law config within exchange count n told reached =
    let order = reached.0 in
    let first = reached.1.1 in
    let start = first.0 in
    let m = first.2 in
    let goes : Goes config within (first_node exchange start m) order n = subst (λ (v : Node). Goes config within v order n) first.4 reached.1.2 in
    let Any : List Item → Type 0 = λ v. Unit {0} in
    let b = build config within told.clock Any order (first_node exchange start m) n (first_timed exchange start m told)
    (λ c. let w = walks_go_on within told.clock n.received n.sent n.end c.clocked in (w.0, w.1, tt)) goes in
    record {
      start = start;
      front = b.front;
      later = b.later;
      way = record { starts = first.1; allowed = built_way config within exchange Any order start m n told b; timed = b.timed };
      counts = ap (λ (v : List Item). length (sent_in v)) b.items ∙ reached.2;
      begins = to_begins law config (records_of_front exchange.second start b.front b.later) n.member (m, first.3, b.reaches);
    }

-- at the end of a whole way nothing is left
pub whole_is_reached : EachOwedCanBeMet → WholeIsReached
whole_is_reached law config within exchange e x =
    let k = from_complete law config (records_of_way exchange.second x.start x.events) e x.complete in
    let first : Node = first_node exchange x.start k.1.0 in
    let w = orders_are_walks within exchange.received.now exchange.sent.now exchange.end (items_in x.events) x.way.allowed in
    let walk : IsWalk within exchange.received.now exchange.sent.now exchange.end (items_in (x.events ++ [])) =
    subst (λ (v : List Event). IsWalk within exchange.received.now exchange.sent.now exchange.end (items_in v)) (sym (append-nil x.events)) w in
    let timed : AreTimed exchange.second (x.events ++ []) = subst (λ (v : List Event). AreTimed exchange.second v) (sym (append-nil x.events)) x.way.timed in
    let r = by_front config within x.events [] first k.0 walk timed k.1.2 in (
      items_in x.events,
      r.0,
      (first, (x.start, x.way.starts, k.1.0, k.1.1, refl), r.1),
      record {
        received = r.3.0;
        sent = r.3.1;
        end = r.3.2;
        free = subst (λ (v : Member). IsFree v) (sym r.2) k.2;
      },
      ap (λ (v : Member). fsm_of v.state.head) r.2 ∙ k.3,
    )

no_events : (events : List Event) → items_in events ≡ [] → events ≡ []
no_events [] h = refl
no_events (Passed second item ∷ later) h = absurd cc

pub reached_is_whole : EachOwedCanBeMet → ReachedIsWhole
reached_is_whole law config within exchange order n told reached last =
    let first = reached.1 in
    let start = first.0 in
    let m = first.2 in
    let goes : Goes config within (first_node exchange start m) order n = subst (λ (v : Node). Goes config within v order n) first.4 reached.2 in
    let None' : List Item → Type 0 = λ v. v ≡ [] in
    let b = build config within told.clock None' order (first_node exchange start m) n (first_timed exchange start m told)
    (λ c. ([], (last.received, last.sent, last.end), refl)) goes in
    let e : b.later ≡ [] = no_events b.later b.ends in
    let allowed = built_way config within exchange None' order start m n told b in
    let k = to_complete law config (records_of_way exchange.second start b.front) n.member
    (m, first.3, subst (λ (v : List Event). BareReaches config m (records_in start Other b.front v) n.member) e b.reaches) last.free in (
      k.0,
      record {
        start = start;
        events = b.front;
        way = record {
          starts = first.1;
          allowed = subst (λ (v : List Event). IsAllowedFor within exchange (items_in v)) (append-nil b.front)
              (subst (λ (v : List Event). IsAllowedFor within exchange (items_in (b.front ++ v))) e allowed);
          timed = subst (λ (v : List Event). AreTimed exchange.second v) (append-nil b.front)
              (subst (λ (v : List Event). AreTimed exchange.second (b.front ++ v)) e b.timed);
        };
        complete = k.1;
      },
      k.2,
    )

pub some_way : SomeWay
some_way within exchange start told may =
    let w = walks_go_on within told.clock exchange.received.now exchange.sent.now exchange.end told.go_by in
    let t = timed_walk within told.clock w.0 exchange.second exchange.received.now exchange.sent.now exchange.end told.go_by (told_seconds exchange told) w.1 in (
      t.0,
      record {
        starts = may;
        allowed = walks_are_orders within told.clock exchange.received.now exchange.sent.now exchange.end (items_in t.0) told.go_by
            (subst (λ (v : List Item). IsWalk within exchange.received.now exchange.sent.now exchange.end v) (sym t.1) w.1);
        timed = t.2;
      },
    )
