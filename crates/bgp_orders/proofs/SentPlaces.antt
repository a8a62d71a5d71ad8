-- What could have been sent in the place of a message is what nodes right before it take.
use Rattle.std.proofs.Common.{◌≡◌, ◌≢◌, ◌↔◌, inl, inr, ◌++◌, ℕ, Bool, IsTrue, List, [], ◌∷◌, drop, length, refl, sym, ap, subst, ◌∙◌, arith}
use Rattle.bgp_prefix.specs.Shown as shown
use Rattle.bgp_prefix.specs.Shown.{ShownRecord}
use Rattle.bgp_open.specs.declared.config.Config.{Config}
use Rattle.bgp_machine.specs.Lists.{Has}
use Rattle.bgp_machine.proofs.RowByRow.{each_weaker}
use Rattle.bgp_machine.specs.Owed.{EachOwedCanBeMet}
use Rattle.bgp_machine.specs.Run.{Begins}
use Rattle.bgp_recording.specs.declared.message.Message.{Message}
use Rattle.bgp_recording.specs.declared.ordering.Exchange.{Exchange}
use Rattle.bgp_recording.specs.Allowed.{Item, Received, Sent, Ended, sent_in}
use Rattle.bgp_recording.specs.First.{IsFirst}
use Rattle.bgp_recording.specs.Leads.{MayPass}
use Rattle.bgp_recording.specs.Tells.{Event, Passed, AreTimed, items_in}
use Rattle.bgp_recording.specs.Told.{AreClocked, IsTold}
use Rattle.bgp_judge.specs.Chains.{bare}
use Rattle.bgp_judge.specs.Member.{Member, fresh_member}
use Rattle.bgp_judge.specs.Next.{Next}
use Rattle.bgp_judge.specs.declared.member.PlainMember.{PlainMember}
use Rattle.bgp_judge.specs.Plain.{Among, member_value}
use Rattle.bgp_judge.proofs.Chains.{bare_step}
use Rattle.bgp_orders.specs.declared.node.Node.{Node as CodeNode}
use Rattle.bgp_orders.specs.declared.node.Spot.{Spot}
use Rattle.bgp_orders.specs.declared.search.Turn.{Turn}
use Rattle.bgp_orders.specs.declared.sent_place.SentPlace.{SentPlace}
use Rattle.bgp_orders.specs.Nodes.{Node, Goes, first_node}
use Rattle.bgp_orders.specs.Rows.{InRow, IsIn, IsOf, node_at}
use Rattle.bgp_orders.specs.SentPlaces.{AreReached, CouldBeSent, IsSentPlace, Takes}
use Rattle.bgp_orders.specs.Turns.{Saying}
use Rattle.bgp_orders.specs.Ways.{IsWay, records_of_front}
use Rattle.bgp_orders.proofs.Fronts.{by_front}
use Rattle.bgp_orders.proofs.GoesOn.{walks_go_on}
use Rattle.bgp_orders.proofs.Many.{nodes_of}
use Rattle.bgp_orders.proofs.Reached.{IsTimed, GoesOn, build, built_way, first_timed, from_begins, to_begins}
use Rattle.bgp_orders.proofs.Rows.{passing, passing_is, ended_last, from_goes_by, goes_by}
use Rattle.bgp_orders.proofs.Steps.{same_first}
use Rattle.bgp_orders.proofs.Walks.{clocked_sent, orders_are_walks}
use Rattle.bgp_orders.proofs.Ways.{join, part}

-- the octets may be sent at the node, in place of the next message
pub record Sends (config : Config) (within : ℕ) (octets : List ℕ) (n : Node) : Type 0 where
  pub message : Message
  pub left : List Message
  pub sent : n.sent ≡ message ∷ left
  pub may : MayPass within message.second n.received
  pub next : Member
  pub leads : Next config (shown.Sent message.second octets) n.member next

-- ---- from nodes to ways

-- the next item is this sent message
abbrev IsNext : Message → List Item → Type 0
IsNext x items = (rest : List Item) × (items ≡ Sent x ∷ rest)

timed_behind : (front later : List Event) (at : ℕ) → AreTimed at (front ++ later) → (then : ℕ) × AreTimed then later
timed_behind [] later at timed = (at, timed)
timed_behind (Passed second (Received m) ∷ front) later at timed = timed_behind front later second timed.2
timed_behind (Passed second (Sent m) ∷ front) later at timed = timed_behind front later second timed.2
timed_behind (Passed second (Ended e) ∷ front) later at timed = timed_behind front later second timed.2

next_event : (x : Message) (later : List Event) (at : ℕ) → AreTimed at later → IsNext x (items_in later) → (rest : List Event) × (later ≡ Passed x.second (Sent x) ∷ rest)
next_event x [] at timed (rest, e) = absurd cc
next_event x (Passed second (Received m) ∷ later) at timed (rest, e) = absurd cc
next_event x (Passed second (Sent m) ∷ later) at timed (rest, e) =
    let same : m ≡ x = cc in
    (later, ap (λ (v : ℕ). Passed v (Sent m) ∷ later) timed.1 ∙ ap (λ (v : Message). Passed v.second (Sent v) ∷ later) same)
next_event x (Passed second (Ended e) ∷ later) at timed (rest, is) = absurd cc

none_left : (n : Node) (x : Message) (left : List Message) → n.sent ≡ x ∷ left → length n.sent ≡ 0 → ⊥
none_left n x left e none = let some : length n.sent ≡ length (x ∷ left) = ap length e in omega (arith, some, none)

-- before a sent message there is no end
all_sent : (config : Config) (within : ℕ) (order : List Item) (n n2 : Node) (x : Message) (left : List Message) → Goes config within n order n2 → n2.sent ≡ x ∷ left
    → passing order ≡ length (sent_in order)
all_sent config within order n n2 x left goes e = elim (ended_last config within order n n2 goes) [
  | inl none ↦ omega (arith, passing_is order, none)
  | inr none ↦ absurd (none_left n2 x left e none)
]

go_on : (config : Config) (within : ℕ) (clock : ℕ → ℕ) (octets : List ℕ) (n : Node) → (x : Sends config within octets n) → IsTimed clock n → GoesOn within (IsNext x.message) n
go_on config within clock octets n x timed =
    let c : AreClocked clock n.received (x.message ∷ x.left) n.end = subst (λ (v : List Message). AreClocked clock n.received v n.end) x.sent timed.clocked in
    let w = walks_go_on within clock n.received x.left n.end (clocked_sent clock x.message n.received x.left n.end c) in
    (Sent x.message ∷ w.0, (x.left, x.sent, x.may, w.1), (w.0, refl))

could_at_node : EachOwedCanBeMet → (config : Config) (within : ℕ) (exchange : Exchange) (before : ℕ) (octets : List ℕ) (n : Node) → IsTold exchange
    → InRow config within exchange before n → Sends config within octets n → CouldBeSent config within exchange before octets
could_at_node law config within exchange before octets n told (first, is, by) x =
    let k = from_goes_by config within before first n by in
    let start = is.0 in
    let m = is.2 in
    let goes : Goes config within (first_node exchange start m) k.0 n = subst (λ (v : Node). Goes config within v k.0 n) is.4 k.1 in
    let b = build config within told.clock (IsNext x.message) k.0 (first_node exchange start m) n (first_timed exchange start m told)
    (λ c. go_on config within told.clock octets n x c) goes in
    let t = timed_behind b.front b.later exchange.second b.timed in
    let l = next_event x.message b.later t.0 t.1 b.ends in
    let sent : ShownRecord = shown.Sent x.message.second octets in
    let chain = join config fresh_member n.member (bare x.next) (records_of_front exchange.second start b.front b.later) (sent ∷ [])
    (m, is.3, b.reaches) (bare x.next, (x.next, x.leads, refl), refl) in
    let Done : List Event → Type 0 = λ v. IsWay within exchange start (b.front ++ v) × Begins config (records_of_front exchange.second start b.front v ++ sent ∷ []) in
    let done : Done b.later = (
      record { starts = is.1; allowed = built_way config within exchange (IsNext x.message) k.0 start m n told b; timed = b.timed },
      to_begins law config (records_of_front exchange.second start b.front b.later ++ sent ∷ []) (bare x.next) chain,
    ) in
    let d = subst Done l.1 done in
    record {
      start = start;
      front = b.front;
      message = x.message;
      later = l.0;
      way = d.0;
      counts = ap (λ (v : List Item). length (sent_in v)) b.items ∙ sym (all_sent config within k.0 first n x.message x.left k.1 x.sent) ∙ k.2;
      begins = d.1;
    }

-- ---- and back

node_of_could : EachOwedCanBeMet → (config : Config) (within : ℕ) (exchange : Exchange) (before : ℕ) (octets : List ℕ) → CouldBeSent config within exchange before octets
    → (n : Node) × InRow config within exchange before n × Sends config within octets n
node_of_could law config within exchange before octets x =
    let later : List Event = Passed x.message.second (Sent x.message) ∷ x.later in
    let sent : ShownRecord = shown.Sent x.message.second octets in
    let records = records_of_front exchange.second x.start x.front later in
    let k = from_begins law config (records ++ sent ∷ []) x.begins in
    let p = part config fresh_member k.0 records (sent ∷ []) k.1 in
    let first : Node = first_node exchange x.start p.1.0 in
    let w = orders_are_walks within exchange.received.now exchange.sent.now exchange.end (items_in (x.front ++ later)) x.way.allowed in
    let r = by_front config within x.front later first p.0 w x.way.timed p.1.2 in
    let n : Node = r.0 in
    let order = items_in x.front in
    let count : passing order ≡ before = all_sent config within order first n x.message r.3.0 r.1 r.3.1 ∙ x.counts in
    let here : InRow config within exchange (passing order) n = (first, (x.start, x.way.starts, p.1.0, p.1.1, refl), goes_by config within order first n r.1) in (
      n,
      subst (λ (v : ℕ). InRow config within exchange v n) count here,
      record {
        message = x.message;
        left = r.3.0;
        sent = r.3.1;
        may = r.3.2;
        next = p.2.1.0;
        leads = subst (λ (v : Member). Next config sent v p.2.1.0) (sym r.2) p.2.1.1;
      },
    )

-- ---- the nodes of a row

-- with its routes forgotten a member is led on by the same records
led_bare : (config : Config) (r : ShownRecord) (m m2 : Member) → Next config r m m2 → (x : Member) × Next config r (bare m) x
led_bare config r m m2 h = let k = (bare_step config r m (bare m2)).0 (m2, h, refl) in (k.0, k.1)

led_full : (config : Config) (r : ShownRecord) (m m2 : Member) → Next config r (bare m) m2 → (x : Member) × Next config r m x
led_full config r m m2 h = let k = (bare_step config r m (bare m2)).1 (m2, h, refl) in (k.0, k.1)

first_left : (xs : List Message) (x : Message) → IsFirst xs x → (left : List Message) × (xs ≡ x ∷ left)
first_left [] x h = absurd h
first_left (y ∷ left) x h = (left, ap (λ (v : Message). v ∷ left) h)

left_first : (xs : List Message) (x : Message) (left : List Message) → xs ≡ x ∷ left → IsFirst xs x
left_first xs x left e = subst (λ (v : List Message). IsFirst v x) (sym e) refl

sends_of : {X : Type 0} (config : Config) (within : ℕ) (exchange : Exchange) (octets : List ℕ) (node : CodeNode X) → Takes config within exchange octets node
    → (n : Node) × IsOf exchange node n × Sends config within octets n
sends_of config within exchange octets node t =
    let all = drop node.spot.place.sent exchange.sent.now in
    let l = first_left all t.message t.first in
    let same : t.may.0 ≡ t.message = same_first all t.may.0 t.message t.may.1 t.first in
    let k = led_bare config (shown.Sent t.message.second octets) t.member t.next t.leads in (
      node_at exchange node.spot t.member,
      (t.member, t.among, refl),
      record {
        message = t.message;
        left = l.0;
        sent = l.1;
        may = subst (λ (v : Message). MayPass within v.second (drop node.spot.place.received exchange.received.now)) same t.may.2;
        next = k.0;
        leads = k.1;
      },
    )

takes_of : {X : Type 0} (config : Config) (within : ℕ) (exchange : Exchange) (octets : List ℕ) (node : CodeNode X) (n : Node) → IsOf exchange node n → Sends config within octets n
    → Takes config within exchange octets node
takes_of config within exchange octets node n of x0 =
    let x : Sends config within octets (node_at exchange node.spot of.0) = subst (λ (v : Node). Sends config within octets v) of.2 x0 in
    let first = left_first (drop node.spot.place.sent exchange.sent.now) x.message x.left x.sent in
    let k = led_full config (shown.Sent x.message.second octets) of.0 x.next x.leads in
    record {
      message = x.message;
      first = first;
      may = (x.message, first, x.may);
      member = of.0;
      among = of.1;
      next = k.0;
      leads = k.1;
    }

some_sends : {X : Type 0} (config : Config) (within : ℕ) (exchange : Exchange) (octets : List ℕ) (nodes : List (CodeNode X)) → Has (λ node. Takes config within exchange octets node) nodes
    → (n : Node) × IsIn exchange nodes n × Sends config within octets n
some_sends config within exchange octets [] h = absurd h
some_sends config within exchange octets (node ∷ nodes) h = elim h [
  | inl t ↦ let k = sends_of config within exchange octets node t in (k.0, inl k.1, k.2)
  | inr t ↦ let k = some_sends config within exchange octets nodes t in (k.0, inr k.1, k.2)
]

some_takes : {X : Type 0} (config : Config) (within : ℕ) (exchange : Exchange) (octets : List ℕ) (nodes : List (CodeNode X)) (n : Node) → IsIn exchange nodes n → Sends config within octets n
    → Has (λ node. Takes config within exchange octets node) nodes
some_takes config within exchange octets [] n h x = absurd h
some_takes config within exchange octets (node ∷ nodes) n h x = elim h [
  | inl of ↦ inl (takes_of config within exchange octets node n of x)
  | inr k ↦ inr (some_takes config within exchange octets nodes n k x)
]

-- ---- the place

module _ {X : Type 0} (law : EachOwedCanBeMet) (config : Config) (within : ℕ) (exchange : Exchange) (before : ℕ) (octets : List ℕ) (place : SentPlace X)
    (is : IsSentPlace config within exchange before place) where
  pub could_of_takes : IsTold exchange → Has (λ node. Takes place.search.config place.search.within place.search.exchange octets node) place.nodes.items
      → CouldBeSent config within exchange before octets
  could_of_takes told h =
      let a = subst (λ (v : Config). Has (λ node. Takes v place.search.within place.search.exchange octets node) place.nodes.items) is.same_config h in
      let b = subst (λ (v : ℕ). Has (λ node. Takes config v place.search.exchange octets node) place.nodes.items) is.same_within a in
      let c = subst (λ (v : Exchange). Has (λ node. Takes config within v octets node) place.nodes.items) is.same_exchange b in
      let k = some_sends config within exchange octets place.nodes.items c in
      could_at_node law config within exchange before octets k.0 told ((is.row k.0).0 k.1) k.2

  pub takes_of_could : CouldBeSent config within exchange before octets
      → Has (λ node. Takes place.search.config place.search.within place.search.exchange octets node) place.nodes.items
  takes_of_could x =
      let k = node_of_could law config within exchange before octets x in
      let c = some_takes config within exchange octets place.nodes.items k.0 ((is.row k.0).1 k.1) k.2 in
      let b = subst (λ (v : Exchange). Has (λ node. Takes config within v octets node) place.nodes.items) (sym is.same_exchange) c in
      let a = subst (λ (v : ℕ). Has (λ node. Takes config v place.search.exchange octets node) place.nodes.items) (sym is.same_within) b in
      subst (λ (v : Config). Has (λ node. Takes v place.search.within place.search.exchange octets node) place.nodes.items) (sym is.same_config) a

-- ---- what the code asks

-- a list has a member where it isn't empty
some_among : {X : Type 0} (members : List (PlainMember X)) → members ≢ [] → (m : Member) × Among members m
some_among [] h = absurd (h refl)
some_among (x ∷ xs) h = (member_value x, inl refl)

among_some : {X : Type 0} (members : List (PlainMember X)) (m : Member) → Among members m → members ≢ []
among_some [] m h e = h
among_some (x ∷ xs) m h e = cc

pub leads_just : {X : Type 0} (config : Config) (r : ShownRecord) (members next slice : List (PlainMember X)) (any : Bool) → slice ≡ next
    → ((m2 : Member) → Among next m2 ↔ ((m : Member) × Among members m × Next config r m m2)) → IsTrue any ↔ (slice ≢ [])
    → IsTrue any ↔ ((m : Member) × Among members m × (m2 : Member) × Next config r m m2)
leads_just config r members next slice any e just is = (
  λ t.
      let k = some_among next (subst (λ (v : List (PlainMember _)). v ≢ []) e (is.0 t)) in
      let x = (just k.0).0 k.1 in
      (x.0, x.1, k.0, x.2),
  λ k.
      let some = among_some next k.2 ((just k.2).1 (k.0, k.1, k.3)) in
      is.1 (subst (λ (v : List (PlainMember _)). v ≢ []) (sym e) some),
)

pub takes_just : {X : Type 0} (config : Config) (within : ℕ) (exchange : Exchange) (octets : List ℕ) (node : CodeNode X) (turn : Turn) (slice : List (PlainMember X)) (may : Bool)
    → Saying within exchange node.spot turn → slice ≡ node.members.items
    → IsTrue may ↔ ((m : Member) × Among slice m × (m2 : Member) × Next config (shown.Sent turn.spot.last octets) m m2)
    → IsTrue may ↔ Takes config within exchange octets node
takes_just config within exchange octets node turn slice may s e is =
    let at : turn.spot.last ≡ s.message.second = ap (λ (v : Spot). v.last) s.leads in (
      λ t.
          let k = is.0 t in
          record {
            message = s.message;
            first = s.first;
            may = s.may;
            member = k.0;
            among = subst (λ (v : List (PlainMember _)). Among v k.0) e k.1;
            next = k.2;
            leads = subst (λ (v : ℕ). Next config (shown.Sent v octets) k.0 k.2) at k.3;
          },
      λ h.
          let same : h.message ≡ s.message = same_first (drop node.spot.place.sent exchange.sent.now) h.message s.message h.first s.first in
          let there : h.message.second ≡ turn.spot.last = ap (λ (v : Message). v.second) same ∙ sym at in
          is.1 (
            h.member,
            subst (λ (v : List (PlainMember _)). Among v h.member) (sym e) h.among,
            h.next,
            subst (λ (v : ℕ). Next config (shown.Sent v octets) h.member h.next) there h.leads,
          ),
    )

-- ---- the nodes of a place

pub reached_at : {X : Type 0} (config : Config) (within : ℕ) (exchange : Exchange) (before : ℕ) (place : SentPlace X) (count : ℕ) → IsSentPlace config within exchange before place
    → count ≡ length place.nodes.items → AreReached config within exchange before count
reached_at config within exchange before place count is e =
    let its = nodes_of exchange place.nodes.items is.tidy.apart is.tidy.plain in
    record {
      nodes = its.nodes;
      none_twice = its.none_twice;
      in_row = each_weaker (λ n. IsIn exchange place.nodes.items n) (λ n. InRow config within exchange before n) (λ n h. (is.row n).0 h) its.nodes its.in_it;
      count = its.count ∙ sym e;
    }
