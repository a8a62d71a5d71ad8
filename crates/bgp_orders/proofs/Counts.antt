-- What rows say together.
use Rattle.std.proofs.Common.{◌≡◌, inl, inr, ◌↔◌, ◌<◌, ◌≤◌, ◌+◌, ℕ, zero, suc, Bool, true, false, List, [], ◌∷◌, IsTrue, Option, Some, IfSome, length, drop, refl, sym, ap, subst, ◌∙◌, arith}
use Rattle.std.proofs.lemmas.Bool.{cases_lt}
use Rattle.std.proofs.lemmas.List.{drop_all}
use Rattle.bgp_open.specs.declared.config.Config.{Config}
use Rattle.bgp_prefix.specs.Shown as shown
use Rattle.bgp_machine.specs.Lists.{Has}
use Rattle.bgp_machine.specs.Owed.{EachOwedCanBeMet}
use Rattle.bgp_recording.specs.declared.message.Message.{Message}
use Rattle.bgp_recording.specs.declared.ordering.Exchange.{Exchange}
use Rattle.bgp_recording.specs.declared.state.State.{State}
use Rattle.bgp_recording.specs.declared.state.State.TheVariants.{Connect, Active}
use Rattle.bgp_recording.specs.States.{state_number}
use Rattle.bgp_recording.specs.Told.{IsTold}
use Rattle.bgp_judge.specs.declared.member.PlainMember.{PlainMember}
use Rattle.bgp_judge.specs.Chains.{bare}
use Rattle.bgp_judge.specs.Member.{Member, IsFree, fresh_member}
use Rattle.bgp_judge.specs.Next.{Next}
use Rattle.bgp_judge.specs.Plain.{Among, member_value}
use Rattle.bgp_orders.specs.declared.explained.Explained.TheVariants as answers
use Rattle.bgp_orders.specs.declared.node.Node.{Node as CodeNode}
use Rattle.bgp_orders.specs.Explained.{IsExplained}
use Rattle.bgp_orders.specs.Nodes.{Node, IsFirstNode, first_node}
use Rattle.bgp_orders.specs.Rows.{IsIn, InRow, IsRow, HasLast, HasSome, count_of, IsAnswer, GainsNodes, StartsIn, node_at}
use Rattle.bgp_orders.specs.declared.node.Spot.{Spot}
use Rattle.bgp_orders.specs.Turns.{first_spot}
use Rattle.bgp_orders.specs.Ways.{MayStart}
use Rattle.bgp_orders.proofs.Over.{at_most_explained, none_explained}
use Rattle.bgp_orders.proofs.Steps.{gains_either, gains_keeps, node_of_some, some_of_node}
use Rattle.bgp_orders.proofs.Rows.{row_of_explained, explained_of_row, whole_of_row, row_of_whole}

-- as many sent messages as there are rows so far are explained
pub record AreRows {X : Type 0} (config : Config) (within : ℕ) (exchange : Exchange) (count : ℕ) (nodes : List (CodeNode X)) : Type 0 where
  pub row : IsRow config within exchange count nodes
  pub explained : IsTold exchange → (k : ℕ) → k ≤ count → k ≤ length exchange.sent.now → IsExplained config within exchange k

pub first_rows : {X : Type 0} (config : Config) (within : ℕ) (exchange : Exchange) (count : ℕ) (nodes : List (CodeNode X)) → count ≡ 0 → IsRow config within exchange 0 nodes → AreRows config within exchange count nodes
first_rows config within exchange count nodes e row = record {
  row = subst (λ (v : ℕ). IsRow config within exchange v nodes) (sym e) row;
  explained = λ told k le short. at_most_explained config within exchange k 0 (omega (arith, le, e)) (none_explained config within exchange told);
}

pub some_is : {T : Type 0} (o : Option T) (x : T) (P : T → Type 0) → o ≡ Some x → IfSome o P → P x
some_is o x P e h = subst (λ (v : Option _). IfSome v P) e h

-- one row more: the messages before it are explained, and with it one more if it has a node and is that of a message
pub more_rows : {X : Type 0} (law : EachOwedCanBeMet) (config : Config) (within : ℕ) (exchange : Exchange) (count : ℕ) (nodes next : List (CodeNode X)) → AreRows config within exchange count nodes
    → IsRow config within exchange (count + 1) next → (count < length exchange.sent.now → HasSome next) → AreRows config within exchange (count + 1) next
more_rows law config within exchange count nodes next rows row some = record {
  row = row;
  explained = λ told k le short. elim (cases_lt count k) [
    | inl lt ↦
        let n = node_of_some exchange next (some (omega (arith, lt, short))) in
        let is : count + 1 ≡ k = omega (arith, lt, le) in
        let here : InRow config within exchange k n.0 = subst (λ (v : ℕ). InRow config within exchange v n.0) is ((row n.0).0 n.1) in
        explained_of_row law config within exchange k n.0 told short here
    | inr ge ↦ rows.explained told k (omega (arith, ge)) short
  ];
}

-- the next row is empty: one message more isn't explained
pub only_so_many : {X : Type 0} (law : EachOwedCanBeMet) (config : Config) (within : ℕ) (exchange : Exchange) (count : ℕ) (nodes next : List (CodeNode X)) → AreRows config within exchange count nodes
    → IsRow config within exchange (count + 1) next → count < length exchange.sent.now → (HasSome next → ⊥) → IsTold exchange → IsAnswer config within exchange (answers.Only count)
only_so_many law config within exchange count nodes next rows row lt none told = (
  lt,
  rows.explained told count (omega arith) (omega (arith, lt)),
  λ x.
      let n = row_of_explained law config within exchange (count + 1) x in
      none (some_of_node exchange next n.0 ((row n.0).1 n.1)),
)

pub all_explained : {X : Type 0} (law : EachOwedCanBeMet) (config : Config) (within : ℕ) (exchange : Exchange) (count : ℕ) (nodes : List (CodeNode X)) (whole : Bool) → AreRows config within exchange count nodes
    → count ≡ length exchange.sent.now + count_of exchange.end → (IsTrue whole ↔ HasLast exchange nodes) → IsTold exchange → IsAnswer config within exchange (answers.All whole)
all_explained law config within exchange count nodes true rows e has told =
    whole_of_row law config within exchange nodes (subst (λ (v : ℕ). IsRow config within exchange v nodes) e rows.row) told (has.0 refl)
all_explained law config within exchange count nodes false rows e has told = (
  rows.explained told (length exchange.sent.now) (omega (arith, e)) (omega arith),
  λ end whole.
      let is : IsTrue false = has.1 (row_of_whole law config within exchange nodes (subst (λ (v : ℕ). IsRow config within exchange v nodes) e rows.row) end whole) in
      absurd cc,
)

-- ---- the last node of a way

abbrev pub IsLastOf : {X : Type 0} → Exchange → CodeNode X → Type 0
IsLastOf exchange node = (length exchange.received.now ≤ node.spot.place.received) × ((m : Member) × Among node.members.items m × IsFree m)

none_dropped : (k : ℕ) (xs : List Message) → drop k xs ≡ [] → length xs ≤ k
none_dropped k [] h = omega arith
none_dropped zero (x ∷ xs) h = absurd cc
none_dropped (suc k) (x ∷ xs) h = omega (arith, none_dropped k xs h)

pub last_here : {X : Type 0} (exchange : Exchange) (nodes : List (CodeNode X)) → Has (λ x. IsLastOf exchange x) nodes → HasLast exchange nodes
last_here exchange [] h = absurd h
last_here exchange (x ∷ xs) h = elim h [
  | inl is ↦
      let m = is.1 in
      (node_at exchange x.spot m.0, inl (m.0, m.1, refl), drop_all x.spot.place.received exchange.received.now is.0, m.2)
  | inr k ↦ let y = last_here exchange xs k in (y.0, inr y.1, y.2, y.3)
]

pub here_last : {X : Type 0} (exchange : Exchange) (nodes : List (CodeNode X)) → HasLast exchange nodes → Has (λ x. IsLastOf exchange x) nodes
here_last exchange [] h = absurd h.1
here_last exchange (x ∷ xs) h = elim h.1 [
  | inl is ↦
      let none : drop x.spot.place.received exchange.received.now ≡ [] = ap (λ (v : Node). v.received) (sym is.2) ∙ h.2 in
      let free : IsFree is.0 = subst (λ (v : Node). IsFree v.member) is.2 h.3 in
      inl (none_dropped x.spot.place.received exchange.received.now none, (is.0, is.1, free))
  | inr k ↦ inr (here_last exchange xs (h.0, k, h.2, h.3))
]

-- ---- the first nodes

pub starts_just : {X : Type 0} (config : Config) (exchange : Exchange) (start : State) (x : PlainMember X) (old new : ℕ) (slice members : List (PlainMember X)) → MayStart exchange start
    → member_value x ≡ fresh_member → slice ≡ x ∷ [] → old ≡ 1 → new ≡ state_number start
    → ((m2 : Member) → Among members m2 ↔ ((m : Member) × Among slice m × Next config (shown.Changed exchange.second old new) m m2))
    → (spot : Spot) → spot ≡ first_spot exchange start
    → (n : Node) → ((m : Member) × Among members m × (n ≡ node_at exchange spot m)) ↔ StartsIn config exchange start n
starts_just config exchange start x old new slice members may fresh one a b just spot is_first n =
    let there : (m : Member) → node_at exchange spot m ≡ node_at exchange (first_spot exchange start) m = λ m. ap (λ (s : Spot). node_at exchange s m) is_first in (
      λ h.
          let k = (just h.0).0 h.1 in
          let is : k.0 ≡ fresh_member = elim (subst (λ (v : List (PlainMember _)). Among v k.0) one k.1) [ inl e ↦ sym e ∙ fresh | inr none ↦ absurd none ] in
          let next : Next config (shown.Changed exchange.second 1 (state_number start)) fresh_member h.0 =
          subst (λ (v : ℕ). Next config (shown.Changed exchange.second 1 v) fresh_member h.0) b
          (subst (λ (v : ℕ). Next config (shown.Changed exchange.second v new) fresh_member h.0) a
          (subst (λ (v : Member). Next config (shown.Changed exchange.second old new) v h.0) is k.2)) in
          (may, bare h.0, (h.0, next, refl), h.2 ∙ there h.0),
      λ h.
          let k = h.2 in
          let next : Next config (shown.Changed exchange.second old new) fresh_member k.0 =
          subst (λ (v : ℕ). Next config (shown.Changed exchange.second v new) fresh_member k.0) (sym a)
          (subst (λ (v : ℕ). Next config (shown.Changed exchange.second 1 v) fresh_member k.0) (sym b) k.1) in
          let among : Among slice fresh_member = subst (λ (v : List (PlainMember _)). Among v fresh_member) (sym one) (inl fresh) in
          (k.0, (just k.0).1 (fresh_member, among, next), h.3 ∙ ap (λ (v : Member). first_node exchange start v) (sym k.2) ∙ sym (there k.0)),
    )

pub firsts_just : {X : Type 0} (config : Config) (exchange : Exchange) (none mid new : List (CodeNode X)) → none ≡ [] → GainsNodes exchange none mid (StartsIn config exchange Connect)
    → GainsNodes exchange mid new (StartsIn config exchange Active) → (n : Node) → IsIn exchange new n ↔ IsFirstNode config exchange n
firsts_just config exchange none mid new e one other n = (
  λ h. elim (gains_either exchange mid new _ n other h) [
    | inl a ↦ elim (gains_either exchange none mid _ n one a) [
      | inl b ↦ absurd (subst (λ (v : List (CodeNode _)). IsIn exchange v n) e b)
      | inr s ↦ (Connect, s.0, s.1, s.2, s.3)
    ]
    | inr s ↦ (Active, s.0, s.1, s.2, s.3)
  ],
  λ k.
      let starts : StartsIn config exchange k.0 n = (k.1, k.2, k.3, k.4) in
      elim k.1.0 [
        | inl is ↦ gains_keeps exchange mid new _ n other (one.adds n (subst (λ (v : State). StartsIn config exchange v n) is starts))
        | inr is ↦ other.adds n (subst (λ (v : State). StartsIn config exchange v n) is starts)
      ],
)
