-- Rows are just the nodes that are reached, and how they grow.
use Rattle.std.proofs.Common.{◌≡◌, ◌↔◌, ◌⊎◌, inl, inr, ℕ, zero, suc, ◌+◌, ◌<◌, ◌≤◌, List, [], ◌∷◌, ◌++◌, Option, None, Some, IfSome, length, take, refl, sym, ap, subst, ◌∙◌, arith}
use Rattle.std.proofs.lemmas.List.{take_all, length-append}
use Rattle.streams.specs.declared.connection.End.{End}
use Rattle.bgp_open.specs.declared.config.Config.{Config}
use Rattle.bgp_machine.specs.Owed.{EachOwedCanBeMet}
use Rattle.bgp_machine.specs.Run.{End as RunEnd}
use Rattle.bgp_recording.specs.declared.message.Message.{Message}
use Rattle.bgp_recording.specs.declared.ordering.Exchange.{Exchange}
use Rattle.bgp_recording.specs.Allowed.{Item, Received, Sent, Ended, sent_in, ends_in}
use Rattle.bgp_recording.specs.Told.{IsTold}
use Rattle.bgp_judge.specs.Member.{IsFree}
use Rattle.bgp_orders.specs.declared.node.Node.{Node as CodeNode}
use Rattle.bgp_orders.specs.Explained.{IsExplained, IsWhole}
use Rattle.bgp_orders.specs.Nodes.{Node, IsFirstNode, Hears, Goes, IsLast}
use Rattle.bgp_orders.specs.Rows.{HearsAll, HearsOn, Passes, GoesBy, InRow, IsIn, IsOfPlace, GainsNodes, InNextRow, IsRow, HasLast, count_of}
use Rattle.bgp_orders.proofs.Over.{none_explained}
use Rattle.bgp_orders.proofs.Reached.{explained_is_reached, reached_is_explained, whole_is_reached, reached_is_whole}
use Rattle.bgp_orders.proofs.Steps.{gains_keeps, gains_either, gains_same}

-- ---- from items to rows

-- how many are sent, the end too
abbrev pub passing : List Item → ℕ
passing [] = zero
passing (Received x ∷ later) = passing later
passing (Sent x ∷ later) = suc (passing later)
passing (Ended e ∷ later) = suc (passing later)

hears_first : (config : Config) (within : ℕ) (count : ℕ) (n mid n2 : Node) (x : Message) → Hears config n x mid → GoesBy config within mid count n2 → GoesBy config within n count n2
hears_first config within zero n mid n2 x h k = (x ∷ k.0, (mid, h, k.1))
hears_first config within (suc count) n mid n2 x h k = (k.0, k.1, hears_first config within count n mid k.0 x h k.2, k.3, k.4)

passes_first : (config : Config) (within : ℕ) (count : ℕ) (n mid n2 : Node) → Passes config within n mid → GoesBy config within mid count n2 → GoesBy config within n (suc count) n2
passes_first config within zero n mid n2 h k = (n, mid, ([], refl), h, k)
passes_first config within (suc count) n mid n2 h k = (k.0, k.1, passes_first config within count n mid k.0 h k.2, k.3, k.4)

pub goes_by : (config : Config) (within : ℕ) (order : List Item) (n n2 : Node) → Goes config within n order n2 → GoesBy config within n (passing order) n2
goes_by config within [] n n2 k = ([], k)
goes_by config within (Received x ∷ later) n n2 k = hears_first config within (passing later) n k.0 n2 x k.1 (goes_by config within later k.0 n2 k.2)
goes_by config within (Sent x ∷ later) n n2 k = passes_first config within (passing later) n k.0 n2 (inl (x, k.1)) (goes_by config within later k.0 n2 k.2)
goes_by config within (Ended e ∷ later) n n2 k = passes_first config within (passing later) n k.0 n2 (inr (e, k.1)) (goes_by config within later k.0 n2 k.2)

-- ---- and back

abbrev items_of : List Message → List Item
items_of [] = []
items_of (x ∷ later) = Received x ∷ items_of later

none_passing : (xs : List Message) → passing (items_of xs) ≡ 0
none_passing [] = refl
none_passing (x ∷ xs) = none_passing xs

hears_goes : (config : Config) (within : ℕ) (xs : List Message) (n n2 : Node) → HearsAll config n xs n2 → Goes config within n (items_of xs) n2
hears_goes config within [] n n2 k = k
hears_goes config within (x ∷ xs) n n2 k = (k.0, k.1, hears_goes config within xs k.0 n2 k.2)

goes_on : (config : Config) (within : ℕ) (front later : List Item) (n mid n2 : Node) → Goes config within n front mid → Goes config within mid later n2 → Goes config within n (front ++ later) n2
goes_on config within [] later n mid n2 e k = subst (λ (v : Node). Goes config within v later n2) (sym e) k
goes_on config within (item ∷ front) later n mid n2 h k = (h.0, h.1, goes_on config within front later h.0 mid n2 h.2 k)

passing_both : (front later : List Item) → passing (front ++ later) ≡ passing front + passing later
passing_both [] later = omega arith
passing_both (Received x ∷ front) later = passing_both front later
passing_both (Sent x ∷ front) later = omega (arith, passing_both front later)
passing_both (Ended e ∷ front) later = omega (arith, passing_both front later)

one_passes : (config : Config) (within : ℕ) (n n2 : Node) → Passes config within n n2 → (item : Item) × Goes config within n (item ∷ []) n2 × (passing (item ∷ []) ≡ 1)
one_passes config within n n2 (inl x) = (Sent x.0, (n2, x.1, refl), refl)
one_passes config within n n2 (inr e) = (Ended e.0, (n2, e.1, refl), refl)

pub from_goes_by : (config : Config) (within : ℕ) (count : ℕ) (n n2 : Node) → GoesBy config within n count n2 → (order : List Item) × Goes config within n order n2 × (passing order ≡ count)
from_goes_by config within zero n n2 k = (items_of k.0, hears_goes config within k.0 n n2 k.1, none_passing k.0)
from_goes_by config within (suc count) n n2 (a, b, before, passes, behind) =
    let front = from_goes_by config within count n a before in
    let one = one_passes config within a b passes in
    let items = items_of behind.0 in
    let rest = goes_on config within (one.0 ∷ []) items a b n2 one.1 (hears_goes config within behind.0 b n2 behind.1) in (
      front.0 ++ one.0 ∷ items,
      goes_on config within front.0 (one.0 ∷ items) n a n2 front.1 rest,
      omega (arith, passing_both front.0 (one.0 ∷ items), passing_both (one.0 ∷ []) items, none_passing behind.0, front.2, one.2),
    )

-- ---- counts

pub passing_is : (order : List Item) → passing order ≡ length (sent_in order) + length (ends_in order)
passing_is [] = refl
passing_is (Received x ∷ later) = passing_is later
passing_is (Sent x ∷ later) = omega (arith, passing_is later)
passing_is (Ended e ∷ later) = omega (arith, passing_is later)

pub sent_left : (config : Config) (within : ℕ) (order : List Item) (n n2 : Node) → Goes config within n order n2 → length (sent_in order) + length n2.sent ≡ length n.sent
sent_left config within [] n n2 e = let same : length n2.sent ≡ length n.sent = ap (λ (v : Node). length v.sent) (sym e) in omega (arith, same)
sent_left config within (Received x ∷ later) n n2 k =
    let same : k.0.sent ≡ n.sent = ap (λ (v : Node). v.sent) k.1.5 in
    sent_left config within later k.0 n2 k.2 ∙ ap length same
sent_left config within (Sent x ∷ later) n n2 k =
    let left : length k.0.sent ≡ length k.1.0 = ap (λ (v : Node). length v.sent) k.1.5 in
    let all : length n.sent ≡ suc (length k.1.0) = ap length k.1.1 in
    omega (arith, sent_left config within later k.0 n2 k.2, left, all)
sent_left config within (Ended e ∷ later) n n2 k =
    let same : k.0.sent ≡ n.sent = ap (λ (v : Node). v.sent) k.1.5 in
    sent_left config within later k.0 n2 k.2 ∙ ap length same

pub ends_left : (config : Config) (within : ℕ) (order : List Item) (n n2 : Node) → Goes config within n order n2 → length (ends_in order) + count_of n2.end ≡ count_of n.end
ends_left config within [] n n2 e = let same : count_of n2.end ≡ count_of n.end = ap (λ (v : Node). count_of v.end) (sym e) in omega (arith, same)
ends_left config within (Received x ∷ later) n n2 k =
    ends_left config within later k.0 n2 k.2 ∙ ap (λ (v : Node). count_of v.end) k.1.5
ends_left config within (Sent x ∷ later) n n2 k =
    ends_left config within later k.0 n2 k.2 ∙ ap (λ (v : Node). count_of v.end) k.1.5
ends_left config within (Ended e ∷ later) n n2 k =
    let none : count_of k.0.end ≡ 0 = ap (λ (v : Node). count_of v.end) k.1.5 in
    let one : count_of n.end ≡ 1 = ap count_of k.1.0 in
    omega (arith, ends_left config within later k.0 n2 k.2, none, one)

-- behind the end nothing is left to be sent
pub ended_last : (config : Config) (within : ℕ) (order : List Item) (n n2 : Node) → Goes config within n order n2 → (length (ends_in order) ≡ 0) ⊎ (length n2.sent ≡ 0)
ended_last config within [] n n2 e = inl refl
ended_last config within (Received x ∷ later) n n2 k = ended_last config within later k.0 n2 k.2
ended_last config within (Sent x ∷ later) n n2 k = ended_last config within later k.0 n2 k.2
ended_last config within (Ended e ∷ later) n n2 k =
    let none : length k.0.sent ≡ 0 = ap (λ (v : Node). length v.sent) k.1.5 ∙ ap length k.1.1 in
    inr (omega (arith, sent_left config within later k.0 n2 k.2, none))

-- ---- rows and what is explained

none_more : (count : ℕ) → zero + count ≡ count
none_more count = omega arith

one_more : (more count : ℕ) → suc more + count ≡ suc (more + count)
one_more more count = omega arith

fewer_in_row : (config : Config) (within : ℕ) (exchange : Exchange) (more count : ℕ) (n : Node) → InRow config within exchange (more + count) n → (n2 : Node) × InRow config within exchange count n2
fewer_in_row config within exchange zero count n k = (n, subst (λ (v : ℕ). InRow config within exchange v n) (none_more count) k)
fewer_in_row config within exchange (suc more) count n k =
    let up : InRow config within exchange (suc (more + count)) n = subst (λ (v : ℕ). InRow config within exchange v n) (one_more more count) k in
    let behind = up.2 in
    fewer_in_row config within exchange more count behind.0 (up.0, up.1, behind.2)

-- if so many are explained, their row has a node
pub row_of_explained : EachOwedCanBeMet → (config : Config) (within : ℕ) (exchange : Exchange) (count : ℕ) → IsExplained config within exchange count → (n : Node) × InRow config within exchange count n
row_of_explained law config within exchange count x =
    let k = explained_is_reached law config within exchange count x in
    let order = k.1.0 in
    let by = k.1.1 in
    let here : InRow config within exchange (passing order) k.0 = (by.0, by.1, goes_by config within order by.0 k.0 by.2) in
    let is : passing order ≡ length (ends_in order) + count = omega (arith, passing_is order, k.1.2) in
    fewer_in_row config within exchange (length (ends_in order)) count k.0 (subst (λ (v : ℕ). InRow config within exchange v k.0) is here)

pub first_sent : (config : Config) (exchange : Exchange) (n : Node) → IsFirstNode config exchange n → length n.sent ≡ length exchange.sent.now
first_sent config exchange n k = ap (λ (v : Node). length v.sent) k.4

pub first_end : (config : Config) (exchange : Exchange) (n : Node) → IsFirstNode config exchange n → count_of n.end ≡ count_of exchange.end
first_end config exchange n k = ap (λ (v : Node). count_of v.end) k.4

-- and if their row has one, they are
pub explained_of_row : EachOwedCanBeMet → (config : Config) (within : ℕ) (exchange : Exchange) (count : ℕ) (n : Node) → IsTold exchange → count ≤ length exchange.sent.now
    → InRow config within exchange count n → IsExplained config within exchange count
explained_of_row law config within exchange count n told le (first, is, by) =
    let k = from_goes_by config within count first n by in
    let sent = sent_left config within k.0 first n k.1 in
    let counts : length (sent_in k.0) ≡ count = elim (ended_last config within k.0 first n k.1) [
      | inl none ↦ omega (arith, passing_is k.0, k.2, none)
      | inr none ↦ omega (arith, passing_is k.0, k.2, none, sent, first_sent config exchange first is, le)
    ] in
    reached_is_explained law config within exchange count n told (k.0, (first, is, k.1), counts)

no_messages : (xs : List Message) → length xs ≡ 0 → xs ≡ []
no_messages [] h = refl
no_messages (x ∷ xs) h = absurd (omega (arith, h))

no_end : (end : Option End) → count_of end ≡ 0 → end ≡ None
no_end None h = refl
no_end (Some e) h = absurd (omega (arith, h))

-- at the end of the last row, where no received message is left, nothing is
pub last_in : (config : Config) (within : ℕ) (exchange : Exchange) (n : Node) → InRow config within exchange (length exchange.sent.now + count_of exchange.end) n → n.received ≡ [] → IsFree n.member → IsLast n
last_in config within exchange n here received free =
    let first : Node = here.0 in
    let k = from_goes_by config within (length exchange.sent.now + count_of exchange.end) first n here.2 in
    let sent = sent_left config within k.0 first n k.1 in
    let ends = ends_left config within k.0 first n k.1 in
    let a = first_sent config exchange first here.1 in
    let b = first_end config exchange first here.1 in
    record {
      received = received;
      sent = no_messages n.sent (omega (arith, passing_is k.0, k.2, sent, ends, a, b));
      end = no_end n.end (omega (arith, passing_is k.0, k.2, sent, ends, a, b));
      free = free;
    }

module _ {X : Type 0} (law : EachOwedCanBeMet) (config : Config) (within : ℕ) (exchange : Exchange) (nodes : List (CodeNode X))
    (row : IsRow config within exchange (length exchange.sent.now + count_of exchange.end) nodes) where
  pub whole_of_row : IsTold exchange → HasLast exchange nodes → (e : RunEnd) × IsWhole config within exchange e
  whole_of_row told has =
      let n : Node = has.0 in
      let here = (row n).0 has.1 in
      let first : Node = here.0 in
      let k = from_goes_by config within (length exchange.sent.now + count_of exchange.end) first n here.2 in
      let last = last_in config within exchange n here has.2 has.3 in
      let x = reached_is_whole law config within exchange k.0 n told (first, here.1, k.1) last in
      (x.0, x.1)

  pub row_of_whole : (e : RunEnd) → IsWhole config within exchange e → HasLast exchange nodes
  row_of_whole e x =
      let k = whole_is_reached law config within exchange e x in
      let order = k.0 in
      let n : Node = k.1 in
      let by = k.2 in
      let last = k.3 in
      let sent = sent_left config within order by.0 n by.2 in
      let ends = ends_left config within order by.0 n by.2 in
      let a = first_sent config exchange by.0 by.1 in
      let b = first_end config exchange by.0 by.1 in
      let c : length n.sent ≡ 0 = ap length last.sent in
      let d : count_of n.end ≡ 0 = ap count_of last.end in
      let up : InRow config within exchange (passing order) n = (by.0, by.1, goes_by config within order by.0 n by.2) in
      let is : passing order ≡ length exchange.sent.now + count_of exchange.end = omega (arith, passing_is order, sent, ends, a, b, c, d) in
      let here : InRow config within exchange (length exchange.sent.now + count_of exchange.end) n = subst (λ (v : ℕ). InRow config within exchange v n) is up in
      (n, (row n).1 here, last.received, last.free)

pub first_explained : EachOwedCanBeMet → (config : Config) (within : ℕ) (exchange : Exchange) → IsTold exchange → IsExplained config within exchange 0
first_explained law config within exchange told = none_explained config within exchange told

-- ---- a row that grows

pub of_place : {X : Type 0} (exchange : Exchange) (nodes : List (CodeNode X)) (place : ℕ) (n : Node) → IsOfPlace exchange nodes place n → IsIn exchange nodes n
of_place exchange [] place n h = absurd h
of_place exchange (x ∷ xs) zero n h = inl h
of_place exchange (x ∷ xs) (suc place) n h = inr (of_place exchange xs place n h)

-- the nodes of one place more
take_place : {X : Type 0} (exchange : Exchange) (nodes : List (CodeNode X)) (place : ℕ) (n : Node) → IsIn exchange (take (suc place) nodes) n → IsIn exchange (take place nodes) n ⊎ IsOfPlace exchange nodes place n
take_place exchange [] place n h = absurd h
take_place exchange (x ∷ xs) zero n h = elim h [ inl k ↦ inr k | inr none ↦ absurd none ]
take_place exchange (x ∷ xs) (suc place) n h = elim h [
  | inl k ↦ inl (inl k)
  | inr k ↦ elim (take_place exchange xs place n k) [ inl a ↦ inl (inr a) | inr b ↦ inr b ]
]

take_more_nodes : {X : Type 0} (nodes more : List X) (place : ℕ) → place ≤ length nodes → take place (nodes ++ more) ≡ take place nodes
take_more_nodes nodes more zero h = refl
take_more_nodes [] more (suc place) h = absurd (omega (arith, h))
take_more_nodes (x ∷ xs) more (suc place) h = ap (λ v. x ∷ v) (take_more_nodes xs more place (omega (arith, h)))

hears_more : (config : Config) (xs : List Message) (n mid n2 : Node) (x : Message) → HearsAll config n xs mid → Hears config mid x n2 → HearsOn config n n2
hears_more config [] n mid n2 x e h = (x ∷ [], (n2, subst (λ (v : Node). Hears config v x n2) (sym e) h, refl))
hears_more config (y ∷ ys) n mid n2 x k h = let rest = hears_more config ys k.0 mid n2 x k.2 h in (y ∷ rest.0, (k.0, k.1, rest.1))

module _ {X : Type 0} (config : Config) (within : ℕ) (exchange : Exchange) (row first : List (CodeNode X)) where
  -- the row so far: what nodes it has, and of which the next ones are in it
  pub record IsGrowing (passed heard : ℕ) (next : List (CodeNode X)) : Type 0 where
    pub sound : (n : Node) → IsIn exchange next n → InNextRow config within exchange row first n
    pub firsts : (n : Node) → IsIn exchange first n → IsIn exchange next n
    pub has_passed : (a b : Node) → IsIn exchange (take passed row) a → Passes config within a b → IsIn exchange next b
    pub has_heard : (a b : Node) (x : Message) → IsIn exchange (take heard next) a → Hears config a x b → IsIn exchange next b
    pub in_it : heard ≤ length next

  pub nothing_grown : IsGrowing 0 0 first
  nothing_grown = record {
    sound = λ n h. (n, inl h, ([], refl));
    firsts = λ n h. h;
    has_passed = λ a b h p. absurd h;
    has_heard = λ a b x h k. absurd h;
    in_it = omega arith;
  }

  longer : (heard : ℕ) (old new : List (CodeNode X)) (Also : Node → Type 0) → GainsNodes exchange old new Also → heard ≤ length old → take heard new ≡ take heard old
  longer heard old new Also g le = ap (λ (v : List (CodeNode _)). take heard v) g.joined ∙ take_more_nodes old g.more heard le

  no_shorter : (old new : List (CodeNode X)) (Also : Node → Type 0) → GainsNodes exchange old new Also → length old ≤ length new
  no_shorter old new Also g = omega (arith, ap length g.joined, length-append old g.more)

  pub one_passed : (passed heard : ℕ) (old new : List (CodeNode X)) → IsGrowing passed heard old
      → GainsNodes exchange old new (λ n2. (n : Node) × IsOfPlace exchange row passed n × Passes config within n n2) → IsGrowing (suc passed) heard new
  one_passed passed heard old new k g = record {
    sound = λ n h. elim (gains_either exchange old new _ n g h) [
      | inl a ↦ k.sound n a
      | inr b ↦ (n, inr (b.0, of_place exchange row passed b.0 b.1, b.2), ([], refl))
    ];
    firsts = λ n h. gains_keeps exchange old new _ n g (k.firsts n h);
    has_passed = λ a b h p. elim (take_place exchange row passed a h) [
      | inl x ↦ gains_keeps exchange old new _ b g (k.has_passed a b x p)
      | inr y ↦ g.adds b (a, y, p)
    ];
    has_heard = λ a b x h p. gains_keeps exchange old new _ b g (k.has_heard a b x (subst (λ (v : List (CodeNode _)). IsIn exchange v a) (longer heard old new _ g k.in_it) h) p);
    in_it = omega (arith, k.in_it, no_shorter old new _ g);
  }

  pub one_heard : (passed heard : ℕ) (old new : List (CodeNode X)) → IsGrowing passed heard old → heard < length old
      → GainsNodes exchange old new (λ n2. (n : Node) × IsOfPlace exchange old heard n × (x : Message) × Hears config n x n2) → IsGrowing passed (suc heard) new
  one_heard passed heard old new k lt g = record {
    sound = λ n h. elim (gains_either exchange old new _ n g h) [
      | inl a ↦ k.sound n a
      | inr b ↦
          let from = k.sound b.0 (of_place exchange old heard b.0 b.1) in
          let on = from.2 in
          (from.0, from.1, hears_more config on.0 from.0 b.0 n b.2 on.1 b.3)
    ];
    firsts = λ n h. gains_keeps exchange old new _ n g (k.firsts n h);
    has_passed = λ a b h p. gains_keeps exchange old new _ b g (k.has_passed a b h p);
    has_heard = λ a b x h p. elim (take_place exchange old heard a (subst (λ (v : List (CodeNode _)). IsIn exchange v a) (longer (suc heard) old new _ g (omega (arith, lt))) h)) [
      | inl y ↦ gains_keeps exchange old new _ b g (k.has_heard a b x y p)
      | inr z ↦ g.adds b (a, z, x, p)
    ];
    in_it = omega (arith, lt, no_shorter old new _ g);
  }

  plus_one : (count : ℕ) → suc count ≡ count + 1
  plus_one count = omega arith

  pub passed_more : (passed heard : ℕ) (old new : List (CodeNode X)) → IsGrowing passed heard old
      → GainsNodes exchange old new (λ n2. (n : Node) × IsOfPlace exchange row passed n × Passes config within n n2) → IsGrowing (passed + 1) heard new
  passed_more passed heard old new k g = subst (λ (v : ℕ). IsGrowing v heard new) (plus_one passed) (one_passed passed heard old new k g)

  pub heard_more : (passed heard : ℕ) (slice old new : List (CodeNode X)) (Made : Node → Type 0) → slice ≡ old → IsGrowing passed heard old → heard < length slice
      → ((n2 : Node) → Made n2 ↔ ((n : Node) × IsOfPlace exchange slice heard n × (x : Message) × Hears config n x n2)) → GainsNodes exchange old new Made → IsGrowing passed (heard + 1) new
  heard_more passed heard slice old new Made same k lt just g =
      let Then : List (CodeNode X) → Type 0 = λ v. (heard < length v) × ((n2 : Node) → Made n2 ↔ ((n : Node) × IsOfPlace exchange v heard n × (x : Message) × Hears config n x n2)) in
      let then : Then old = subst Then same (lt, just) in
      subst (λ (v : ℕ). IsGrowing passed v new) (plus_one heard)
      (one_heard passed heard old new k then.0 (gains_same exchange old new Made (λ n2. (n : Node) × IsOfPlace exchange old heard n × (x : Message) × Hears config n x n2) g then.1))

  -- what received messages make of its nodes is in it
  closed : (next : List (CodeNode X)) → ((a b : Node) (x : Message) → IsIn exchange next a → Hears config a x b → IsIn exchange next b) → (xs : List Message) (b n : Node)
      → IsIn exchange next b → HearsAll config b xs n → IsIn exchange next n
  closed next step [] b n h e = subst (λ (v : Node). IsIn exchange next v) e h
  closed next step (x ∷ xs) b n h k = closed next step xs k.0 n (step b k.0 x h k.1) k.2

  pub all_grown : (passed heard : ℕ) (next : List (CodeNode X)) → IsGrowing passed heard next → length row ≤ passed → length next ≤ heard
      → (n : Node) → IsIn exchange next n ↔ InNextRow config within exchange row first n
  all_grown passed heard next k all_passed all_heard n = (
    k.sound n,
    λ x.
        let from : IsIn exchange next x.0 = elim x.1 [
          | inl a ↦ k.firsts x.0 a
          | inr b ↦ k.has_passed b.0 x.0 (subst (λ (v : List (CodeNode _)). IsIn exchange v b.0) (sym (take_all passed row all_passed)) b.1) b.2
        ] in
        let on = x.2 in
        closed next (λ a b y h p. k.has_heard a b y (subst (λ (v : List (CodeNode _)). IsIn exchange v a) (sym (take_all heard next all_heard)) h) p) on.0 x.0 n from on.1,
  )

pub if_some : {T : Type 0} (o : Option T) (P Q : T → Type 0) → ((x : T) → P x → Q x) → IfSome o P → IfSome o Q
if_some None P Q f h = tt
if_some (Some x) P Q f h = f x h

-- ---- rows one after another

pub first_is_row : {X : Type 0} (config : Config) (within : ℕ) (exchange : Exchange) (row first nodes : List (CodeNode X)) → row ≡ []
    → ((n : Node) → IsIn exchange first n ↔ IsFirstNode config exchange n) → ((n : Node) → IsIn exchange nodes n ↔ InNextRow config within exchange row first n)
    → IsRow config within exchange 0 nodes
first_is_row config within exchange row first nodes e begins next n = (
  λ h.
      let k = (next n).0 h in
      elim k.1 [
        | inl a ↦ (k.0, (begins k.0).0 a, k.2)
        | inr b ↦ absurd (subst (λ (v : List (CodeNode _)). IsIn exchange v b.0) e b.1)
      ],
  λ k. (next n).1 (k.0, inl ((begins k.0).1 k.1), k.2),
)

pub next_is_row : {X : Type 0} (config : Config) (within : ℕ) (exchange : Exchange) (count : ℕ) (row first nodes : List (CodeNode X)) → first ≡ []
    → IsRow config within exchange count row → ((n : Node) → IsIn exchange nodes n ↔ InNextRow config within exchange row first n)
    → IsRow config within exchange (suc count) nodes
next_is_row config within exchange count row first nodes e before next n = (
  λ h.
      let k = (next n).0 h in
      elim k.1 [
        | inl a ↦ absurd (subst (λ (v : List (CodeNode _)). IsIn exchange v k.0) e a)
        | inr b ↦
            let from = (before b.0).0 b.1 in
            (from.0, from.1, (b.0, k.0, from.2, b.2, k.2))
      ],
  λ k.
      let by = k.2 in
      (next n).1 (by.1, inr (by.0, (before by.0).1 (k.0, k.1, by.2), by.3), by.4),
)
