-- More nodes are reached than the search looks at.
use Rattle.std.proofs.Common.{◌≡◌, ◌+◌, ◌-◌, ◌<◌, ◌≤◌, ◌++◌, ◌↔◌, inl, inr, ℕ, suc, Bool, true, false, List, [], ◌∷◌, Option, None, Some, IfSome, IsFalse, IsTrue, MatchOption, arith, ap, length, refl, slice_get, subst, sym}
use Rattle.std.proofs.lemmas.List.{length-append}
use Rattle.bgp_open.specs.declared.config.Config.{Config}
use Rattle.bgp_machine.specs.Lists.{Each, Has, NoneTwice}
use Rattle.bgp_machine.specs.Owed.{EachOwedCanBeMet}
use Rattle.bgp_machine.proofs.RowByRow.{each_weaker, has_either}
use Rattle.bgp_recording.specs.declared.message.Message.{Message}
use Rattle.bgp_recording.specs.declared.ordering.Exchange.{Exchange}
use Rattle.bgp_recording.specs.Allowed.{Item}
use Rattle.bgp_orders.specs.declared.node.Node.{Node as CodeNode}
use Rattle.bgp_orders.specs.Many.{AreMoreNodes}
use Rattle.bgp_orders.specs.Nodes.{Hears, IsFirstNode, IsReachedBy, Node}
use Rattle.bgp_orders.specs.Rows.{GainsNodes, HasSome, InRow, IsIn, IsMade, IsOf, IsOfPlace, IsRow, Passes, count_of, node_at}
use Rattle.bgp_orders.specs.Tidy.{AreApart, AreUpTo, HasMoreIn, HasMoreNext, IsPlain, IsTidy, IsWithin, StandsAt, StaysTidy}
use Rattle.bgp_orders.proofs.Counts.{AreRows, first_rows, more_rows, some_is}
use Rattle.bgp_orders.proofs.Rows.{IsGrowing, ends_left, first_end, first_sent, from_goes_by, heard_more, nothing_grown, passed_more, passing_is, sent_left}
use Rattle.bgp_orders.proofs.Steps.{first_member}
use Rattle.bgp_orders.proofs.Tidy.{IsTidySoFar, each_joined, tidy_first, tidy_heard, tidy_passed}

pub one_more : (count : ℕ) → suc count ≡ count + 1
one_more count = omega arith

-- ---- the nodes of a list

-- so many different nodes are among those that the list keeps
pub record HasNodes {X : Type 0} (exchange : Exchange) (codes : List (CodeNode X)) : Type 0 where
  pub nodes : List Node
  pub none_twice : NoneTwice nodes
  pub in_it : Each (λ n. IsIn exchange codes n) nodes
  pub count : length nodes ≡ length codes

not_in : {X : Type 0} (exchange : Exchange) (codes : List (CodeNode X)) (nodes : List Node) (n : Node) → Each (λ x. IsIn exchange codes x) nodes → (IsIn exchange codes n → ⊥)
    → Has (λ x. x ≡ n) nodes → ⊥
not_in exchange codes [] n each not h = h
not_in exchange codes (x ∷ nodes) n each not h = elim h [
  | inl e ↦ not (subst (λ (v : Node). IsIn exchange codes v) e each.0)
  | inr k ↦ not_in exchange codes nodes n each.1 not k
]

pub nodes_of : {X : Type 0} (exchange : Exchange) (codes : List (CodeNode X)) → AreApart exchange codes → Each (IsPlain exchange) codes → HasNodes exchange codes
nodes_of exchange [] apart plain = record { nodes = []; none_twice = tt; in_it = tt; count = refl }
nodes_of exchange (c ∷ codes) apart plain =
    let rest = nodes_of exchange codes apart.1 plain.1 in
    let m = first_member c.members.items plain.0.some in
    let n = node_at exchange c.spot m.0 in
    let is : IsOf exchange c n = (m.0, m.1, refl) in
    record {
      nodes = n ∷ rest.nodes;
      none_twice = (not_in exchange codes rest.nodes n rest.in_it (apart.0 n is), rest.none_twice);
      in_it = (inl is, each_weaker (λ x. IsIn exchange codes x) (λ x. IsIn exchange (c ∷ codes) x) (λ x h. inr h) rest.nodes rest.in_it);
      count = ap suc rest.count;
    }

-- ---- rows are apart

module _ (config : Config) (within : ℕ) (exchange : Exchange) where
  -- what is left of a node says in which row it is
  left_in_row : (count : ℕ) (n : Node) → InRow config within exchange count n → length n.sent + count_of n.end + count ≡ length exchange.sent.now + count_of exchange.end
  left_in_row count n (first, is, by) =
      let k = from_goes_by config within count first n by in
      let sent = sent_left config within k.0 first n k.1 in
      let ends = ends_left config within k.0 first n k.1 in
      omega (arith, passing_is k.0, k.2, sent, ends, first_sent config exchange first is, first_end config exchange first is)

  pub reached_in : (count : ℕ) (n : Node) → InRow config within exchange count n → (order : List Item) × IsReachedBy config within exchange order n
  reached_in count n (first, is, by) = let k = from_goes_by config within count first n by in (k.0, (first, is, k.1))

  abbrev pub IsEarlier : ℕ → Node → Type 0
  IsEarlier count n = (before : ℕ) × (before < count) × InRow config within exchange before n

  -- the nodes of rows before this one, none twice
  pub record AreCounted (count total : ℕ) : Type 0 where
    pub nodes : List Node
    pub none_twice : NoneTwice nodes
    pub earlier : Each (IsEarlier count) nodes
    pub many : total ≤ length nodes

  pub none_counted : AreCounted 0 0
  none_counted = record { nodes = []; none_twice = tt; earlier = tt; many = omega arith }

  apart_from : (count : ℕ) (nodes : List Node) (n : Node) → Each (IsEarlier count) nodes → InRow config within exchange count n → Has (λ x. x ≡ n) nodes → ⊥
  apart_from count [] n each row h = h
  apart_from count (x ∷ nodes) n each row h = elim h [
    | inl e ↦
        let other : InRow config within exchange each.0.0 n = subst (λ (v : Node). InRow config within exchange each.0.0 v) e each.0.2 in
        let less : each.0.0 < count = each.0.1 in
        omega (arith, left_in_row count n row, left_in_row each.0.0 n other, less)
    | inr k ↦ apart_from count nodes n each.1 row k
  ]

  twice_joined : (count : ℕ) (xs ys : List Node) → NoneTwice xs → NoneTwice ys → Each (IsEarlier count) ys → Each (λ n. InRow config within exchange count n) xs → NoneTwice (xs ++ ys)
  twice_joined count [] ys none none' earlier row = none'
  twice_joined count (x ∷ xs) ys none none' earlier row = (
    λ h. elim (has_either (λ y. y ≡ x) xs ys h) [
      | inl a ↦ none.0 a
      | inr b ↦ apart_from count ys x earlier row.0 b
    ],
    twice_joined count xs ys none.1 none' earlier row.1,
  )

  module _ {X : Type 0} where
    pub counted_with : (count total more : ℕ) (codes : List (CodeNode X)) → AreCounted count total → IsTidy exchange codes
        → ((n : Node) → IsIn exchange codes n → InRow config within exchange count n) → more ≤ total + length codes → AreCounted (suc count) more
    counted_with count total more codes so_far tidy row le =
        let its = nodes_of exchange codes tidy.apart tidy.plain in
        let of_row = each_weaker (λ n. IsIn exchange codes n) (λ n. InRow config within exchange count n) row its.nodes its.in_it in
        record {
          nodes = its.nodes ++ so_far.nodes;
          none_twice = twice_joined count its.nodes so_far.nodes its.none_twice so_far.none_twice so_far.earlier of_row;
          earlier = each_joined (IsEarlier (suc count)) its.nodes so_far.nodes
              (each_weaker (λ n. InRow config within exchange count n) (IsEarlier (suc count)) (λ n h. (count, omega arith, h)) its.nodes of_row)
              (each_weaker (IsEarlier count) (IsEarlier (suc count)) (λ n h. let less : h.0 < count = h.1 in (h.0, omega (arith, less), h.2)) so_far.nodes so_far.earlier);
          many = let a = so_far.many in let b = length-append its.nodes so_far.nodes in omega (arith, le, a, b, its.count);
        }

    pub more_than : (count total most : ℕ) → AreCounted count total → HasMoreIn X config within exchange count (most - total) → AreMoreNodes config within exchange most
    more_than count total most so_far has =
        let codes : List (CodeNode X) = has.0 in
        let less : most - total < length codes = has.2 in
        let all = counted_with count total (total + length codes) codes so_far has.1 has.3 (omega arith) in
        record {
          nodes = all.nodes;
          none_twice = all.none_twice;
          reached = each_weaker (IsEarlier (suc count)) (λ n. (order : List Item) × IsReachedBy config within exchange order n) (λ n h. reached_in h.0 n h.2) all.nodes all.earlier;
          more = let a = all.many in omega (arith, less, a);
        }

    -- ---- rows one after another

    pub first_or_more : (row first : List (CodeNode X)) (most : ℕ) → row ≡ [] → ((n : Node) → IsIn exchange first n → IsFirstNode config exchange n)
        → HasMoreNext config within exchange row first most → HasMoreIn X config within exchange 0 most
    first_or_more row first most none begins has = (
      has.0,
      has.1,
      has.2,
      λ n h.
          let k = has.3 n h in
          elim k.1 [
            | inl a ↦ (k.0, begins k.0 a, k.2)
            | inr b ↦ absurd (subst (λ (v : List (CodeNode _)). IsIn exchange v b.0) none b.1)
          ],
    )

    pub next_or_more : (count : ℕ) (row first : List (CodeNode X)) (most : ℕ) → first ≡ [] → IsRow config within exchange count row
        → HasMoreNext config within exchange row first most → HasMoreIn X config within exchange (suc count) most
    next_or_more count row first most none before has = (
      has.0,
      has.1,
      has.2,
      λ n h.
          let k = has.3 n h in
          elim k.1 [
            | inl a ↦ absurd (subst (λ (v : List (CodeNode _)). IsIn exchange v k.0) none a)
            | inr b ↦
                let from = (before b.0).0 b.1 in
                (from.0, from.1, (b.0, k.0, from.2, b.2, k.2))
          ],
    )

-- ---- a row that grows

module _ {X : Type 0} (config : Config) (within : ℕ) (exchange : Exchange) (row first : List (CodeNode X)) where
  pub record IsGrowingSo (passed heard : ℕ) (next : List (CodeNode X)) : Type 0 where
    pub grows : IsGrowing config within exchange row first passed heard next
    pub tidy : IsTidy exchange row → IsTidy exchange first → AreUpTo 0 first → IsTidySoFar exchange row passed heard next

  pub nothing_so : IsGrowingSo 0 0 first
  nothing_so = record {
    grows = nothing_grown config within exchange row first;
    tidy = λ r f each. tidy_first exchange row first f each;
  }

  abbrev pub Compares : ℕ → ℕ → List (CodeNode X) → Bool → Type 0
  Compares passed heard slice is = IfSome (slice_get row passed) (λ from. IfSome (slice_get slice heard) (λ to.
      (IsTrue is → from.spot.place.received ≤ to.spot.place.received) × (IsFalse is → to.spot.place.received < from.spot.place.received)))

  pub passed_so : (passed heard : ℕ) (slice old new : List (CodeNode X)) → slice ≡ old → IsGrowingSo passed heard old → (is : Bool) → passed < length row → Compares passed heard slice is → is ≡ true
      → GainsNodes exchange old new (λ n2. (n : Node) × IsOfPlace exchange row passed n × Passes config within n n2)
      → IfSome (slice_get row passed) (λ from. IsWithin exchange from.spot → IsTidy exchange old → AreUpTo from.spot.place.received old → StaysTidy exchange from.spot.place.received old new)
      → IsGrowingSo (passed + 1) heard new
  passed_so passed heard slice old new same so_far is lt compares it gains step =
      let told : Compares passed heard old is = subst (λ (v : List (CodeNode _)). Compares passed heard v is) same compares in
      record {
        grows = passed_more config within exchange row first passed heard old new so_far.grows gains;
        tidy = λ r f each. subst (λ (v : ℕ). IsTidySoFar exchange row v heard new) (one_more passed)
            (tidy_passed exchange row passed heard old new r (so_far.tidy r f each) lt
            (λ c d e e'. (some_is (slice_get old heard) d _ e' (some_is (slice_get row passed) c _ e told)).0 it)
            (λ c e. some_is (slice_get row passed) c _ e step));
      }

  pub heard_so : (passed heard : ℕ) (slice old new : List (CodeNode X)) (made : Option (CodeNode X)) → slice ≡ old → IsGrowingSo passed heard old → (is : Bool) → heard < length slice → Compares passed heard slice is
      → is ≡ false → ((n2 : Node) → IsMade exchange made n2 ↔ ((n : Node) × IsOfPlace exchange slice heard n × (x : Message) × Hears config n x n2)) → GainsNodes exchange old new (IsMade exchange made)
      → IfSome (slice_get slice heard) (λ from. IsWithin exchange from.spot → IfSome made (StandsAt exchange (from.spot.place.received + 1)))
      → ((received : ℕ) → IsTidy exchange old → IfSome made (StandsAt exchange received) → AreUpTo received old → StaysTidy exchange received old new)
      → IsGrowingSo passed (heard + 1) new
  heard_so passed heard slice old new made same so_far is lt compares it just gains stands step =
      let Then : List (CodeNode X) → Type 0 = λ v. (heard < length v) × Compares passed heard v is
      × IfSome (slice_get v heard) (λ from. IsWithin exchange from.spot → IfSome made (StandsAt exchange (from.spot.place.received + 1))) in
      let then : Then old = subst Then same (lt, compares, stands) in
      record {
        grows = heard_more config within exchange row first passed heard slice old new (IsMade exchange made) same so_far.grows lt just gains;
        tidy = λ r f each. subst (λ (v : ℕ). IsTidySoFar exchange row passed v new) (one_more heard)
            (tidy_heard exchange row passed heard old new r (so_far.tidy r f each) then.0
            (λ c d e e'. (some_is (slice_get old heard) d _ e' (some_is (slice_get row passed) c _ e then.1)).1 it)
            (λ d e within_it tidy up. step (suc d.spot.place.received) tidy
            (subst (λ (v : ℕ). IfSome made (StandsAt exchange v)) (sym (one_more d.spot.place.received)) (some_is (slice_get old heard) d _ e then.2 within_it)) up));
      }

-- ---- rows so far

pub match_option : {T : Type 0} (o : Option T) (N N' : Type 0) (P Q : T → Type 0) → (N → N') → ((x : T) → P x → Q x) → MatchOption o N P → MatchOption o N' Q
match_option None N N' P Q n f h = n h
match_option (Some x) N N' P Q n f h = f x h

pub matched_some : {T : Type 0} (o : Option T) (x : T) (N : Type 0) (P : T → Type 0) → o ≡ Some x → MatchOption o N P → P x
matched_some o x N P e h = subst (λ (v : Option _). MatchOption v N P) e h

pub matched_none : {T : Type 0} (o : Option T) (N : Type 0) (P : T → Type 0) → o ≡ None → MatchOption o N P → N
matched_none o N P e h = subst (λ (v : Option _). MatchOption v N P) e h

-- as many sent messages as there are rows so far are explained, and there are so many nodes
pub record AreRowsSo {X : Type 0} (config : Config) (within : ℕ) (exchange : Exchange) (count total : ℕ) (nodes : List (CodeNode X)) : Type 0 where
  pub rows : AreRows config within exchange count nodes
  pub tidy : IsTidy exchange nodes
  pub counted : AreCounted config within exchange (suc count) total

module _ {X : Type 0} (config : Config) (within : ℕ) (exchange : Exchange) where
  pub first_so : (count total : ℕ) (nodes : List (CodeNode X)) → count ≡ 0 → IsRow config within exchange 0 nodes → IsTidy exchange nodes → total ≤ length nodes → AreRowsSo config within exchange count total nodes
  first_so count total nodes e row tidy le = record {
    rows = first_rows config within exchange count nodes e row;
    tidy = tidy;
    counted = subst (λ (v : ℕ). AreCounted config within exchange (suc v) total) (sym e)
        (counted_with config within exchange 0 0 total nodes (none_counted config within exchange) tidy (λ n. (row n).0) (omega (arith, le)));
  }

  pub more_so : (law : EachOwedCanBeMet) (count total more : ℕ) (nodes next : List (CodeNode X)) → AreRowsSo config within exchange count total nodes
      → IsRow config within exchange (count + 1) next → IsTidy exchange next → (count < length exchange.sent.now → HasSome next) → more ≤ total + length next
      → AreRowsSo config within exchange (count + 1) more next
  more_so law count total more nodes next so_far row tidy some le = record {
    rows = more_rows law config within exchange count nodes next so_far.rows row some;
    tidy = tidy;
    counted = subst (λ (v : ℕ). AreCounted config within exchange (suc v) more) (one_more count)
        (counted_with config within exchange (suc count) total more next so_far.counted tidy
        (λ n h. subst (λ (v : ℕ). InRow config within exchange v n) (sym (one_more count)) ((row n).0 h)) le);
  }

  pub too_many_next : (count total most left : ℕ) (nodes : List (CodeNode X)) → AreRowsSo config within exchange count total nodes → left ≡ most - total
      → HasMoreIn X config within exchange (count + 1) left → AreMoreNodes config within exchange most
  too_many_next count total most left nodes so_far is has =
      more_than config within exchange {X = X} (suc count) total most so_far.counted
      (subst (λ (v : ℕ). HasMoreIn X config within exchange v (most - total)) (sym (one_more count)) (subst (λ (v : ℕ). HasMoreIn X config within exchange (count + 1) v) is has))

  pub too_many_first : (most : ℕ) → HasMoreIn X config within exchange 0 most → AreMoreNodes config within exchange most
  too_many_first most has =
      let all : most ≡ most - 0 = omega arith in
      more_than config within exchange {X = X} 0 0 most (none_counted config within exchange) (subst (λ (v : ℕ). HasMoreIn X config within exchange 0 v) all has)

-- ---- rows so far, whatever they explain

-- the row is that of so many sent messages, and there are so many nodes in the rows up to it
pub record AreRowsTo {X : Type 0} (config : Config) (within : ℕ) (exchange : Exchange) (count total : ℕ) (nodes : List (CodeNode X)) : Type 0 where
  pub row : IsRow config within exchange count nodes
  pub tidy : IsTidy exchange nodes
  pub counted : AreCounted config within exchange (suc count) total

module _ {X : Type 0} (config : Config) (within : ℕ) (exchange : Exchange) where
  pub first_to : (total : ℕ) (nodes : List (CodeNode X)) → IsRow config within exchange 0 nodes → IsTidy exchange nodes → total ≤ length nodes → AreRowsTo config within exchange 0 total nodes
  first_to total nodes row tidy le = record {
    row = row;
    tidy = tidy;
    counted = counted_with config within exchange 0 0 total nodes (none_counted config within exchange) tidy (λ n. (row n).0) (omega (arith, le));
  }

  pub more_to : (count total more : ℕ) (nodes next : List (CodeNode X)) → AreRowsTo config within exchange count total nodes → IsRow config within exchange (count + 1) next → IsTidy exchange next
      → more ≤ total + length next → AreRowsTo config within exchange (count + 1) more next
  more_to count total more nodes next so_far row tidy le = record {
    row = row;
    tidy = tidy;
    counted = subst (λ (v : ℕ). AreCounted config within exchange (suc v) more) (one_more count)
        (counted_with config within exchange (suc count) total more next so_far.counted tidy
        (λ n h. subst (λ (v : ℕ). InRow config within exchange v n) (sym (one_more count)) ((row n).0 h)) le);
  }

  pub too_many_to : (count total most left : ℕ) (nodes : List (CodeNode X)) → AreRowsTo config within exchange count total nodes → left ≡ most - total
      → HasMoreIn X config within exchange (count + 1) left → AreMoreNodes config within exchange most
  too_many_to count total most left nodes so_far is has =
      more_than config within exchange {X = X} (suc count) total most so_far.counted
      (subst (λ (v : ℕ). HasMoreIn X config within exchange v (most - total)) (sym (one_more count)) (subst (λ (v : ℕ). HasMoreIn X config within exchange (count + 1) v) is has))

  -- the rows up to this one have more already
  pub many_to : (count total most : ℕ) (nodes : List (CodeNode X)) → AreRowsTo config within exchange count total nodes → most < total → AreMoreNodes config within exchange most
  many_to count total most nodes so_far lt =
      let all = so_far.counted in record {
        nodes = all.nodes;
        none_twice = all.none_twice;
        reached = each_weaker (IsEarlier config within exchange (suc count)) (λ n. (order : List Item) × IsReachedBy config within exchange order n) (λ n h. reached_in config within exchange h.0 n h.2) all.nodes all.earlier;
        more = let a = all.many in omega (arith, lt, a);
      }
