-- Lists of nodes stay in order, and no node stands twice.
use Rattle.std.proofs.Common.{◌≡◌, ◌≢◌, ◌∙◌, ◌+◌, ◌-◌, ◌<◌, ◌≤◌, ◌++◌, ◌⊎◌, inl, inr, ℕ, zero, suc, Bool, true, false, List, [], ◌∷◌, Option, None, Some, IfSome, arith, ap, append-nil, append_assoc, drop, length, refl, slice_get, subst, sym}
use Rattle.std.proofs.lemmas.List.{length-drop}
use Rattle.streams.specs.declared.connection.End.{End}
use Rattle.bgp_machine.specs.Lists.{Each, Has}
use Rattle.bgp_machine.proofs.RowByRow.{each_more, each_weaker, has_either, has_left}
use Rattle.bgp_recording.specs.First.{IsFirst}
use Rattle.bgp_recording.specs.declared.message.Message.{Message}
use Rattle.bgp_recording.specs.declared.ordering.Exchange.{Exchange}
use Rattle.bgp_recording.specs.declared.pending.Place.{Place}
use Rattle.bgp_recording.specs.declared.standing.Before.{Before}
use Rattle.bgp_recording.specs.declared.state.State.{State}
use Rattle.bgp_judge.specs.declared.member.PlainMember.{PlainMember}
use Rattle.bgp_judge.specs.Chains.{bare}
use Rattle.bgp_judge.specs.Member.{Member}
use Rattle.bgp_judge.specs.Plain.{Among, member_value}
use Rattle.bgp_orders.specs.declared.node.Node.{Node as CodeNode}
use Rattle.bgp_orders.specs.declared.node.Spot.{Spot}
use Rattle.bgp_orders.specs.declared.search.Ending.{Ending}
use Rattle.bgp_orders.specs.declared.search.Turn.{Turn}
use Rattle.bgp_orders.specs.Nodes.{Node}
use Rattle.bgp_orders.specs.Rows.{IsIn, IsOf, end_left, node_at}
use Rattle.bgp_orders.specs.Tidy.{AreApart, AreInOrder, AreUpTo, IsPlain, IsTidy, IsWithin, KeepsOne, StaysTidy}
use Rattle.bgp_orders.specs.Turns.{Closing, Hearing, Saying, ended_spot, first_spot, heard_spot, said_spot}
use Rattle.bgp_orders.proofs.Steps.{AreAdded}

-- ---- lists

pub each_joined : {X : Type 0} (P : X → Type 0) (xs ys : List X) → Each P xs → Each P ys → Each P (xs ++ ys)
each_joined P [] ys p q = q
each_joined P (x ∷ xs) ys p q = (p.0, each_joined P xs ys p.1 q)

pub each_front : {X : Type 0} (P : X → Type 0) (xs ys : List X) → Each P (xs ++ ys) → Each P xs
each_front P [] ys p = tt
each_front P (x ∷ xs) ys p = (p.0, each_front P xs ys p.1)

pub each_behind : {X : Type 0} (P : X → Type 0) (xs ys : List X) → Each P (xs ++ ys) → Each P ys
each_behind P [] ys p = p
each_behind P (x ∷ xs) ys p = each_behind P xs ys p.1

pub each_at : {X : Type 0} (P : X → Type 0) (xs : List X) (i : ℕ) (x : X) → Each P xs → slice_get xs i ≡ Some x → P x
each_at P [] i x p e = absurd (let k : ⊥ = cc in k)
each_at P (y ∷ ys) zero x p e = let same : y ≡ x = cc in subst P same p.0
each_at P (y ∷ ys) (suc i) x p e = each_at P ys i x p.1 e

-- ---- received messages behind nodes

module _ {X : Type 0} where
  pub up_to : (k most : ℕ) (nodes : List (CodeNode X)) → k ≤ most → AreUpTo k nodes → AreUpTo most nodes
  up_to k most nodes le each = each_weaker (λ c. c.spot.place.received ≤ k) (λ c. c.spot.place.received ≤ most) (λ c at. omega (arith, le, at)) nodes each

  order_more : (nodes : List (CodeNode X)) (c : CodeNode X) → AreInOrder nodes → AreUpTo c.spot.place.received nodes → AreInOrder (nodes ++ c ∷ [])
  order_more [] c order each = (tt, tt)
  order_more (d ∷ nodes) c order each = (
    each_more (λ e. d.spot.place.received ≤ e.spot.place.received) nodes c order.0 each.0,
    order_more nodes c order.1 each.1,
  )

  -- those before one have no more behind them
  pub order_front : (front : List (CodeNode X)) (c : CodeNode X) (later : List (CodeNode X)) → AreInOrder (front ++ c ∷ later) → AreUpTo c.spot.place.received front
  order_front [] c later order = tt
  order_front (d ∷ front) c later order =
      let of_c = each_behind (λ e. d.spot.place.received ≤ e.spot.place.received) front (c ∷ later) order.0 in
      (of_c.0, order_front front c later order.1)

  pub order_at : (nodes : List (CodeNode X)) (i : ℕ) (c d : CodeNode X) → AreInOrder nodes → slice_get nodes i ≡ Some c → slice_get nodes (suc i) ≡ Some d
      → c.spot.place.received ≤ d.spot.place.received
  order_at [] i c d order e f = absurd (let k : ⊥ = cc in k)
  order_at (x ∷ nodes) zero c d order e f =
      let same : x ≡ c = cc in
      subst (λ (y : CodeNode _). y.spot.place.received ≤ d.spot.place.received) same (each_at (λ y. x.spot.place.received ≤ y.spot.place.received) nodes 0 d order.0 f)
  order_at (x ∷ nodes) (suc i) c d order e f = order_at nodes i c d order.1 e f

-- ---- nodes of one spot

shorter : (r r' : ℕ) (xs : List Message) → r ≤ length xs → r' ≤ length xs → drop r xs ≡ drop r' xs → r ≡ r'
shorter r r' xs le le' e =
    let one : length (drop r xs) ≡ length xs - r = length-drop r xs in
    let other : length (drop r' xs) ≡ length xs - r' = length-drop r' xs in
    let same : length (drop r xs) ≡ length (drop r' xs) = ap length e in
    omega (arith, one, other, same, le, le')

some_left : (a b : Bool) (end : Option End) → (a ≡ true → end ≢ None) → (b ≡ true → end ≢ None) → end_left a end ≡ end_left b end → a ≡ b
some_left true true end f g e = refl
some_left true false end f g e = absurd (f refl (sym e))
some_left false true end f g e = absurd (g refl e)
some_left false false end f g e = refl

place_same : (a b : Place) → a.received ≡ b.received → a.sent ≡ b.sent → a ≡ b
place_same a b e f =
    ap (λ (r : ℕ). record { received = r; sent = a.sent }) e ∙ ap (λ (s : ℕ). record { received = b.received; sent = s }) f

spot_same : (a b : Spot) → a.place ≡ b.place → a.has_ended ≡ b.has_ended → a.last ≡ b.last → a.state ≡ b.state → a.before ≡ b.before → a ≡ b
spot_same a b e f g h i =
    ap (λ (p : Place). record { place = p; has_ended = a.has_ended; last = a.last; state = a.state; before = a.before }) e
    ∙ ap (λ (p : Bool). record { place = b.place; has_ended = p; last = a.last; state = a.state; before = a.before }) f
    ∙ ap (λ (p : ℕ). record { place = b.place; has_ended = b.has_ended; last = p; state = a.state; before = a.before }) g
    ∙ ap (λ (p : State). record { place = b.place; has_ended = b.has_ended; last = b.last; state = p; before = a.before }) h
    ∙ ap (λ (p : Before). record { place = b.place; has_ended = b.has_ended; last = b.last; state = b.state; before = p }) i

pub one_spot : (exchange : Exchange) (a b : Spot) (m m' : Member) → IsWithin exchange a → IsWithin exchange b → node_at exchange a m ≡ node_at exchange b m' → a ≡ b
one_spot exchange a b m m' within within' e =
    spot_same a b
    (place_same a.place b.place
    (shorter a.place.received b.place.received exchange.received.now within.received within'.received (ap (λ (n : Node). n.received) e))
    (shorter a.place.sent b.place.sent exchange.sent.now within.sent within'.sent (ap (λ (n : Node). n.sent) e)))
    (some_left a.has_ended b.has_ended exchange.end within.ended within'.ended (ap (λ (n : Node). n.end) e))
    (ap (λ (n : Node). n.last) e) (ap (λ (n : Node). n.state) e) (ap (λ (n : Node). n.before) e)

-- ---- a node more

module _ {X : Type 0} where
  pub kept_there : (exchange : Exchange) (spot : Spot) (m : Member) (nodes : List (CodeNode X)) → IsWithin exchange spot → bare m ≡ m → Each (IsPlain exchange) nodes
      → IsIn exchange nodes (node_at exchange spot m) → Has (KeepsOne spot m) nodes
  kept_there exchange spot m [] within plain each there = absurd there
  kept_there exchange spot m (d ∷ nodes) within plain each there = elim there [
    | inl here ↦
        let same : d.spot ≡ spot = sym (one_spot exchange spot d.spot m here.0 within each.0.spot here.2) in
        let alike : bare m ≡ bare here.0 = ap (λ (n : Node). n.member) here.2 in
        let is : here.0 ≡ m = sym (each.0.plain here.0 here.1) ∙ sym alike ∙ plain in
        inl (same, subst (λ (v : Member). Among d.members.items v) is here.1)
    | inr later ↦ inr (kept_there exchange spot m nodes within plain each.1 later)
  ]

  apart_more : (exchange : Exchange) (nodes : List (CodeNode X)) (c : CodeNode X) → AreApart exchange nodes → ((n : Node) → IsOf exchange c n → IsIn exchange nodes n → ⊥)
      → AreApart exchange (nodes ++ c ∷ [])
  apart_more exchange [] c apart none = (λ n is h. h, tt)
  apart_more exchange (d ∷ nodes) c apart none = (
    λ n is h. elim (has_either (λ x. IsOf exchange x n) nodes (c ∷ []) h) [
      | inl before ↦ apart.0 n is before
      | inr last ↦ elim last [ inl it ↦ none n it (inl is) | inr z ↦ absurd z ]
    ],
    apart_more exchange nodes c apart.1 (λ n is h. none n is (inr h)),
  )

  pub tidy_more : (exchange : Exchange) (nodes : List (CodeNode X)) (c : CodeNode X) → IsTidy exchange nodes → AreUpTo c.spot.place.received nodes → IsPlain exchange c
      → ((n : Node) → IsOf exchange c n → IsIn exchange nodes n → ⊥) → IsTidy exchange (nodes ++ c ∷ [])
  tidy_more exchange nodes c tidy each plain none = record {
    order = order_more nodes c tidy.order each;
    apart = apart_more exchange nodes c tidy.apart none;
    plain = each_more (IsPlain exchange) nodes c tidy.plain plain;
  }

  pub stays : (exchange : Exchange) (received : ℕ) (nodes : List (CodeNode X)) → IsTidy exchange nodes → StaysTidy exchange received nodes nodes
  stays exchange received nodes tidy = record { more = []; joined = sym (append-nil nodes); behind = tt; tidy = tidy }

  pub up_to_more : (exchange : Exchange) (received : ℕ) (old new : List (CodeNode X)) → AreUpTo received old → StaysTidy exchange received old new → AreUpTo received new
  up_to_more exchange received old new each s =
      subst (λ (v : List (CodeNode _)). AreUpTo received v) (sym s.joined)
      (each_joined (λ c. c.spot.place.received ≤ received) old s.more each
      (each_weaker (λ c. c.spot.place.received ≡ received) (λ c. c.spot.place.received ≤ received) (λ c is. omega (arith, is)) s.more s.behind))

  pub stays_on : (exchange : Exchange) (received : ℕ) (old mid new : List (CodeNode X)) → StaysTidy exchange received old mid → StaysTidy exchange received mid new
      → StaysTidy exchange received old new
  stays_on exchange received old mid new s t = record {
    more = s.more ++ t.more;
    joined = t.joined ∙ ap (λ (v : List (CodeNode _)). v ++ t.more) s.joined ∙ append_assoc old s.more t.more;
    behind = each_joined (λ c. c.spot.place.received ≡ received) s.more t.more s.behind t.behind;
    tidy = t.tidy;
  }

  -- one node of a spot and a member, which none of the others keeps
  pub stays_with : (exchange : Exchange) (old new : List (CodeNode X)) (node : CodeNode X) (spot : Spot) (x : PlainMember X) → new ≡ old ++ node ∷ [] → node.spot ≡ spot
      → node.members.items ≡ x ∷ [] → (Has (KeepsOne spot (member_value x)) old → ⊥) → IsTidy exchange old → IsWithin exchange spot → bare (member_value x) ≡ member_value x
      → AreUpTo spot.place.received old → StaysTidy exchange spot.place.received old new
  stays_with exchange old new node spot x e same one none tidy within plain each =
      let m = member_value x in
      let within' : IsWithin exchange node.spot = subst (λ (s : Spot). IsWithin exchange s) (sym same) within in
      let only : (v : Member) → Among node.members.items v → v ≡ m = λ v among. elim (subst (λ (l : List (PlainMember _)). Among l v) one among) [ inl is ↦ sym is | inr z ↦ absurd z ] in
      let its : IsPlain exchange node = record {
        spot = within';
        some = λ no. let k : x ∷ [] ≡ [] = sym one ∙ no in let never : ⊥ = cc in never;
        plain = λ v among. ap bare (only v among) ∙ plain ∙ sym (only v among);
      } in
      let apart : (n : Node) → IsOf exchange node n → IsIn exchange old n → ⊥ = λ n is h.
      none (kept_there exchange spot m old within plain tidy.plain
      (subst (λ (v : Node). IsIn exchange old v) (is.2 ∙ ap (λ (s : Spot). node_at exchange s is.0) same ∙ ap (λ (v : Member). node_at exchange spot v) (only is.0 is.1)) h)) in
      record {
        more = node ∷ [];
        joined = e;
        behind = (ap (λ (s : Spot). s.place.received) same, tt);
        tidy = subst (λ (v : List (CodeNode _)). IsTidy exchange v) (sym e)
            (tidy_more exchange old node tidy (subst (λ (s : Spot). AreUpTo s.place.received old) (sym same) each) its apart);
      }

-- ---- members that are taken away one after another

pub record IsAdding {X : Type 0} (spot : Spot) (members left : List (PlainMember X)) (old new : List (CodeNode X)) : Type 0 where
  pub added : AreAdded spot members left old new
  pub tidy : (exchange : Exchange) → IsTidy exchange old → IsWithin exchange spot → AreUpTo spot.place.received old → StaysTidy exchange spot.place.received old new

pub adding_first : {X : Type 0} (spot : Spot) (old : List (CodeNode X)) (exchange : Exchange) → IsTidy exchange old → IsWithin exchange spot → AreUpTo spot.place.received old
    → StaysTidy exchange spot.place.received old old
adding_first spot old exchange tidy within each = stays exchange spot.place.received old tidy

-- ---- whether a node stands in a list already

module _ {X : Type 0} (spot : Spot) (m : Member) where
  -- what is left to be looked at, and that the others don't keep it
  pub record IsSought (nodes left : List (CodeNode X)) : Type 0 where
    pub seen : List (CodeNode X)
    pub joined : left ++ seen ≡ nodes
    pub none : Has (KeepsOne spot m) seen → ⊥

  pub all_left : (nodes : List (CodeNode X)) → IsSought nodes nodes
  all_left nodes = record { seen = []; joined = append-nil nodes; none = λ h. h }

  pub one_seen : (nodes left others : List (CodeNode X)) (node : CodeNode X) → left ≡ others ++ node ∷ [] → (KeepsOne spot m node → ⊥) → IsSought nodes left → IsSought nodes others
  one_seen nodes left others node e not k = record {
    seen = node ∷ k.seen;
    joined = sym (append_assoc others (node ∷ []) k.seen) ∙ ap (λ (v : List (CodeNode _)). v ++ k.seen) (sym e) ∙ k.joined;
    none = λ h. elim h [ inl it ↦ not it | inr later ↦ k.none later ];
  }

  -- what is left is of the list
  pub there_too : (nodes left : List (CodeNode X)) (exchange : Exchange) (n : Node) → IsSought nodes left → IsIn exchange left n → IsIn exchange nodes n
  there_too nodes left exchange n k h =
      subst (λ (v : List (CodeNode _)). IsIn exchange v n) k.joined (has_left (λ c. IsOf exchange c n) left k.seen h)

  pub none_left : (nodes left : List (CodeNode X)) → left ≡ [] → IsSought nodes left → Has (KeepsOne spot m) nodes → ⊥
  none_left nodes left e k has =
      let is : k.seen ≡ nodes = ap (λ (v : List (CodeNode _)). v ++ k.seen) (sym e) ∙ k.joined in
      k.none (subst (λ (v : List (CodeNode _)). Has (KeepsOne spot m) v) (sym is) has)

  -- those with fewer received messages can't keep it
  fewer : (k : ℕ) (nodes : List (CodeNode X)) → AreUpTo k nodes → k < spot.place.received → Has (KeepsOne spot m) nodes → ⊥
  fewer k [] each less h = h
  fewer k (c ∷ nodes) each less h = elim h [
    | inl it ↦ let same : c.spot.place.received ≡ spot.place.received = ap (λ (s : Spot). s.place.received) it.0 in omega (arith, same, each.0, less)
    | inr later ↦ fewer k nodes each.1 less later
  ]

  pub none_before : (nodes left others : List (CodeNode X)) (node : CodeNode X) → left ≡ others ++ node ∷ [] → (node.spot.place.received ≡ spot.place.received → ⊥) → IsSought nodes left
      → AreInOrder nodes → AreUpTo spot.place.received nodes → Has (KeepsOne spot m) nodes → ⊥
  none_before nodes left others node e not k order each has =
      let is : others ++ node ∷ k.seen ≡ nodes = sym (append_assoc others (node ∷ []) k.seen) ∙ ap (λ (v : List (CodeNode _)). v ++ k.seen) (sym e) ∙ k.joined in
      let Then : List (CodeNode X) → Type 0 = λ v. AreInOrder v × AreUpTo spot.place.received v × Has (KeepsOne spot m) v in
      let then : Then (others ++ node ∷ k.seen) = subst Then (sym is) (order, each, has) in
      let at : node.spot.place.received ≤ spot.place.received = (each_behind (λ c. c.spot.place.received ≤ spot.place.received) others (node ∷ k.seen) then.1).0 in
      let less : node.spot.place.received < spot.place.received = omega (arith, at, not) in
      elim (has_either (KeepsOne spot m) others (node ∷ k.seen) then.2) [
        | inl before ↦ fewer node.spot.place.received others (order_front others node k.seen then.0) less before
        | inr h ↦ elim h [
          | inl it ↦ not (ap (λ (s : Spot). s.place.received) it.0)
          | inr later ↦ k.none later
        ]
      ]

-- ---- a step more

drop_none : {X : Type 0} (r : ℕ) → drop {A = X} r [] ≡ []
drop_none zero = refl
drop_none (suc r) = refl

begins : {X : Type 0} (r : ℕ) (xs : List X) (x : X) → IsFirst (drop r xs) x → r < length xs
begins r [] x h = absurd (let k : IsFirst [] x = subst (λ v. IsFirst v x) (drop_none r) h in k)
begins zero (y ∷ ys) x h = omega arith
begins (suc r) (y ∷ ys) x h = omega (arith, begins r ys x h)

module _ (exchange : Exchange) (spot : Spot) where
  pub heard_within : (turn : Turn) → Hearing exchange spot turn → IsWithin exchange spot → IsWithin exchange turn.spot × (turn.spot.place.received ≡ spot.place.received + 1)
  heard_within turn h within =
      let more = begins spot.place.received exchange.received.now h.message h.first in
      let its : IsWithin exchange (heard_spot exchange spot h.message) = record { received = omega (arith, more); sent = within.sent; ended = within.ended } in (
        subst (λ (s : Spot). IsWithin exchange s) (sym h.leads) its,
        ap (λ (s : Spot). s.place.received) h.leads,
      )

  pub said_within : (within_seconds : ℕ) (turn : Turn) → Saying within_seconds exchange spot turn → IsWithin exchange spot → IsWithin exchange turn.spot × (turn.spot.place.received ≡ spot.place.received)
  said_within seconds turn h within =
      let more = begins spot.place.sent exchange.sent.now h.message h.first in
      let its : IsWithin exchange (said_spot spot h.message) = record { received = within.received; sent = omega (arith, more); ended = within.ended } in (
        subst (λ (s : Spot). IsWithin exchange s) (sym h.leads) its,
        ap (λ (s : Spot). s.place.received) h.leads,
      )

  some_end : (end : End) (is : exchange.end ≡ Some end) → exchange.end ≡ None → ⊥
  some_end end is none = let k : Some end ≡ None = sym is ∙ none in let never : ⊥ = cc in never

  pub ended_within : (seconds : ℕ) (ending : Ending) → Closing seconds exchange spot ending → IsWithin exchange spot → IsWithin exchange ending.spot × (ending.spot.place.received ≡ spot.place.received)
  ended_within seconds ending h within =
      let its : IsWithin exchange (ended_spot exchange spot h.end) = record { received = within.received; sent = within.sent; ended = λ it none. some_end h.end h.is none } in (
        subst (λ (s : Spot). IsWithin exchange s) (sym h.leads) its,
        ap (λ (s : Spot). s.place.received) h.leads,
      )

pub at_place : {X : Type 0} (nodes : List X) (i : ℕ) (x : X) (P : X → Type 0) → slice_get nodes i ≡ Some x → P x → IfSome (slice_get nodes i) P
at_place nodes i x P e p = subst (λ (v : Option _). IfSome v P) (sym e) p

pub nothing_there : {X : Type 0} (nodes : List X) (i : ℕ) (P : X → Type 0) → slice_get nodes i ≡ None → IfSome (slice_get nodes i) P
nothing_there nodes i P e = subst (λ (v : Option _). IfSome v P) (sym e) tt

-- ---- a row that grows

past : {X : Type 0} (old more : List X) (i : ℕ) (x : X) → slice_get (old ++ more) i ≡ Some x → (slice_get old i ≡ Some x) ⊎ Has (λ y. y ≡ x) more
past [] [] i x e = absurd (let k : ⊥ = cc in k)
past [] (y ∷ more) zero x e = inr (inl (let k : y ≡ x = cc in k))
past [] (y ∷ more) (suc i) x e = elim (past [] more i x e) [
  | inl none ↦ absurd (let k : ⊥ = cc in k)
  | inr k ↦ inr (inr k)
]
past (y ∷ old) more zero x e = inl e
past (y ∷ old) more (suc i) x e = past old more i x e

each_of : {X : Type 0} (P : X → Type 0) (xs : List X) (x : X) → Each P xs → Has (λ y. y ≡ x) xs → P x
each_of P [] x p h = absurd h
each_of P (y ∷ ys) x p h = elim h [ inl e ↦ subst P e p.0 | inr k ↦ each_of P ys x p.1 k ]

there_is : {X : Type 0} (xs : List X) (i : ℕ) → i < length xs → (x : X) × (slice_get xs i ≡ Some x)
there_is [] i h = absurd (omega (arith, h))
there_is (x ∷ xs) zero h = (x, refl)
there_is (x ∷ xs) (suc i) h = there_is xs i (omega (arith, h))

module _ {X : Type 0} (exchange : Exchange) (row : List (CodeNode X)) where
  -- the nodes so far are tidy, and the next ones don't have fewer received messages behind them
  pub record IsTidySoFar (passed heard : ℕ) (next : List (CodeNode X)) : Type 0 where
    pub tidy : IsTidy exchange next
    pub by_passed : (c : CodeNode X) → slice_get row passed ≡ Some c → AreUpTo c.spot.place.received next
    pub by_heard : (c : CodeNode X) → slice_get next heard ≡ Some c → AreUpTo (suc c.spot.place.received) next

  pub tidy_first : (first : List (CodeNode X)) → IsTidy exchange first → AreUpTo 0 first → IsTidySoFar 0 0 first
  tidy_first first tidy each = record {
    tidy = tidy;
    by_passed = λ c e. up_to 0 c.spot.place.received first (omega arith) each;
    by_heard = λ c e. up_to 0 (suc c.spot.place.received) first (omega arith) each;
  }

  -- where so many are appended, the next one that is heard has no more than one fewer
  next_heard : (k heard : ℕ) (old new : List (CodeNode X)) → StaysTidy exchange k old new → AreUpTo k new → ((c : CodeNode X) → slice_get old heard ≡ Some c → k ≤ suc c.spot.place.received)
      → (c : CodeNode X) → slice_get new heard ≡ Some c → AreUpTo (suc c.spot.place.received) new
  next_heard k heard old new s each of_old c e =
      elim (past old s.more heard c (subst (λ (v : List (CodeNode _)). slice_get v heard ≡ Some c) s.joined e)) [
        | inl before ↦ up_to k (suc c.spot.place.received) new (of_old c before) each
        | inr added ↦
            let is : c.spot.place.received ≡ k = each_of (λ d. d.spot.place.received ≡ k) s.more c s.behind added in
            up_to k (suc c.spot.place.received) new (omega (arith, is)) each
      ]

  pub tidy_passed : (passed heard : ℕ) (old new : List (CodeNode X)) → IsTidy exchange row → IsTidySoFar passed heard old → passed < length row
      → ((c d : CodeNode X) → slice_get row passed ≡ Some c → slice_get old heard ≡ Some d → c.spot.place.received ≤ d.spot.place.received)
      → ((c : CodeNode X) → slice_get row passed ≡ Some c → IsWithin exchange c.spot → IsTidy exchange old → AreUpTo c.spot.place.received old → StaysTidy exchange c.spot.place.received old new)
      → IsTidySoFar (suc passed) heard new
  tidy_passed passed heard old new tidy so_far lt fewer step =
      let from = there_is row passed lt in
      let c : CodeNode X = from.0 in
      let k = c.spot.place.received in
      let plain = each_at (IsPlain exchange) row passed c tidy.plain from.1 in
      let s = step c from.1 plain.spot so_far.tidy (so_far.by_passed c from.1) in
      let each = up_to_more exchange k old new (so_far.by_passed c from.1) s in
      record {
        tidy = s.tidy;
        by_passed = λ d e. up_to k d.spot.place.received new (order_at row passed c d tidy.order from.1 e) each;
        by_heard = next_heard k heard old new s each (λ d e. let le = fewer c d from.1 e in omega (arith, le));
      }

  pub tidy_heard : (passed heard : ℕ) (old new : List (CodeNode X)) → IsTidy exchange row → IsTidySoFar passed heard old → heard < length old
      → ((c d : CodeNode X) → slice_get row passed ≡ Some c → slice_get old heard ≡ Some d → d.spot.place.received < c.spot.place.received)
      → ((d : CodeNode X) → slice_get old heard ≡ Some d → IsWithin exchange d.spot → IsTidy exchange old → AreUpTo (suc d.spot.place.received) old
      → StaysTidy exchange (suc d.spot.place.received) old new)
      → IsTidySoFar passed (suc heard) new
  tidy_heard passed heard old new tidy so_far lt fewer step =
      let from = there_is old heard lt in
      let d : CodeNode X = from.0 in
      let k = suc d.spot.place.received in
      let plain = each_at (IsPlain exchange) old heard d so_far.tidy.plain from.1 in
      let s = step d from.1 plain.spot so_far.tidy (so_far.by_heard d from.1) in
      let each = up_to_more exchange k old new (so_far.by_heard d from.1) s in
      record {
        tidy = s.tidy;
        by_passed = λ c e. let less = fewer c d e from.1 in up_to k c.spot.place.received new (omega (arith, less)) each;
        by_heard = next_heard k (suc heard) old new s each (λ c e. let le = order_at old heard d c so_far.tidy.order from.1 e in omega (arith, le));
      }

-- ---- where rows begin

pub none_tidy : {X : Type 0} (exchange : Exchange) (nodes : List (CodeNode X)) → nodes ≡ [] → IsTidy exchange nodes
none_tidy exchange nodes e = subst (λ (v : List (CodeNode _)). IsTidy exchange v) (sym e) (record { order = tt; apart = tt; plain = tt })

pub none_up_to : {X : Type 0} (most : ℕ) (nodes : List (CodeNode X)) → nodes ≡ [] → AreUpTo most nodes
none_up_to most nodes e = subst (λ (v : List (CodeNode _)). AreUpTo most v) (sym e) tt

pub first_stands : (exchange : Exchange) (start : State) (spot : Spot) → spot ≡ first_spot exchange start → IsWithin exchange spot × (spot.place.received ≡ 0)
first_stands exchange start spot is = (
  subst (λ (s : Spot). IsWithin exchange s) (sym is) (record { received = omega arith; sent = omega arith; ended = λ it. absurd (let k : ⊥ = cc in k) }),
  ap (λ (s : Spot). s.place.received) is,
)

pub two_starts : {X : Type 0} (exchange : Exchange) (none mid new : List (CodeNode X)) → none ≡ [] → (IsTidy exchange none → AreUpTo 0 none → StaysTidy exchange 0 none mid)
    → (IsTidy exchange mid → AreUpTo 0 mid → StaysTidy exchange 0 mid new) → IsTidy exchange new × AreUpTo 0 new
two_starts exchange none mid new e one other =
    let first = one (none_tidy exchange none e) (none_up_to 0 none e) in
    let each = up_to_more exchange 0 none mid (none_up_to 0 none e) first in
    let second = other first.tidy each in
    (second.tidy, up_to_more exchange 0 mid new each second)
