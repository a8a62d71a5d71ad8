-- Islands: some octets more, and one island less.
use Rattle.std.proofs.Common.{◌≡◌, ◌<◌, ◌≤◌, ◌+◌, ◌-◌, ◌∙◌, ◌⊎◌, ◌++◌, ℕ, Some, None, Option, List, [], length, length-append, get_or, refl, sym, ap, subst, arith, inl, inr}
use Rattle.std.specs.Option.{option_or, option_map, unwrap_or}
use Rattle.std.specs.List.{sum_by}
use Rattle.std.specs.List.Sorted.{IsStrictlySortedBy, IsStrictlyIncreasing}
use Rattle.std.proofs.lemmas.List.{nil_from_length}
use Rattle.std.proofs.lemmas.List.Elements.{All-append, All-same}
use Rattle.std.proofs.lemmas.List.Sums.{sum_by-append}
use Rattle.std.specs.Map.{lookup, keys_of, values_of, remove_entry}
use Rattle.std.specs.BTreeMap.{BTreeMap, get, is_at, IsOrdered, UpdatesBy, insert_entry, btree_map_len, keys}
use Rattle.std.specs.Cmp.{nat_cmp_total}
use Rattle.std.specs.Ordering.{nat_cmp}
use Rattle.std.proofs.lemmas.Bool.{cases_eq, cases_lt}
use Rattle.std.proofs.lemmas.Map.Entries.{sum_by-remove_entry, sum_by-insert_entry}
use Rattle.streams.specs.declared.gathered.Given.{Given}
use Rattle.streams.specs.declared.gathered.Giver.{Giver}
use Rattle.streams.specs.declared.gathered.Gathered.{Gathered}
use Rattle.streams.specs.declared.stretch.Stretch.{Stretch}
use Rattle.streams.specs.Given.{total, known_at, held_at, piece_at, given_at, extent_of, size, AreCounted}
use Rattle.streams.specs.Islands.{EndsAt, IsNoneAfter, IsFirstAfter, IsIsland, AreIslands, AreFrom, AreAfter}
use Rattle.streams.proofs.Known.{known_within, known_past, join_left, join_right}
use Rattle.streams.proofs.Pieces.{piece_before, piece_past, piece_within}
use Rattle.streams.proofs.Places.{given_is, known_given, held, is_at_other}
use Rattle.streams.proofs.Islands.{increasing_of, held_none, first_is, none_is, free_is, some_or_none, same_held, covers_first, island_within, island_before}

none_more : (o : Option Given) → option_or o None ≡ o
none_more None = refl
none_more (Some x) = refl

or_assoc : (a b c : Option Given) → option_or a (option_or b c) ≡ option_or (option_or a b) c
or_assoc None b c = refl
or_assoc (Some x) b c = refl

swapped_left : (p h : Option Given) → p ≡ None → option_or p h ≡ option_or h p
swapped_left p h none = ap (λ (o : Option Given). option_or o h) none ∙ sym (none_more h) ∙ ap (λ (o : Option Given). option_or h o) (sym none)

swapped_right : (p h : Option Given) → h ≡ None → option_or p h ≡ option_or h p
swapped_right p h none = ap (λ (o : Option Given). option_or p o) none ∙ none_more p ∙ sym (ap (λ (o : Option Given). option_or o p) none)

same_value : {X : Type 0} (a b : X) → Some a ≡ Some b → a ≡ b
same_value a b e = cc

no_value : {X : Type 0} (a : X) → None ≡ Some a → ⊥
no_value a e = absurd (cc)

-- Octets that aren't given were put onto the island that ends where they begin, or made an island of their own.
pub record Extends {Z : Type 0} (m n : BTreeMap ℕ (Stretch Z)) (at : ℕ) (octets : List ℕ) (giver : Giver) (base new : Stretch Z) : Type 0 where
  pub are : AreIslands m
  pub ordered : IsStrictlyIncreasing (keys n)
  pub some : 0 < length octets
  pub free : (end : ℕ) (island : Stretch Z) → EndsAt m end island → (end ≤ at) ⊎ (at + length octets + extent_of island ≤ end)
  pub was : EndsAt m at base ⊎ ((get nat_cmp m at ≡ None) × (extent_of base ≡ 0))
  pub here : EndsAt n (at + length octets) new
  pub gone : get nat_cmp n at ≡ None
  pub others : (q : ℕ) → (q ≡ at + length octets → ⊥) → (q ≡ at → ⊥) → get nat_cmp n q ≡ get nat_cmp m q
  pub extent : extent_of new ≡ extent_of base + length octets
  pub covered : total new.runs.items ≡ extent_of new
  pub counted : AreCounted new.runs.items
  pub known : (p : ℕ) → known_at new.octets.items new.runs.items p
      ≡ option_or (known_at base.octets.items base.runs.items p) (piece_at (extent_of base) octets giver p)

-- by a removal and an insertion
pub extends_by : {Z : Type 0} (m rest n : BTreeMap ℕ (Stretch Z)) (at : ℕ) (octets : List ℕ) (giver : Giver) (base new : Stretch Z) → AreIslands m → IsOrdered nat_cmp n → 0 < length octets
    → ((end : ℕ) (island : Stretch Z) → EndsAt m end island → (end ≤ at) ⊎ (at + length octets + extent_of island ≤ end))
    → EndsAt m at base ⊎ ((get nat_cmp m at ≡ None) × (extent_of base ≡ 0))
    → UpdatesBy nat_cmp (nat_cmp at) m rest None → UpdatesBy nat_cmp (nat_cmp (at + length octets)) rest n (Some new)
    → extent_of new ≡ extent_of base + length octets → total new.runs.items ≡ extent_of new → AreCounted new.runs.items
    → ((p : ℕ) → known_at new.octets.items new.runs.items p ≡ option_or (known_at base.octets.items base.runs.items p) (piece_at (extent_of base) octets giver p))
    → Extends m n at octets giver base new
extends_by m rest n at octets giver base new are ordered some free was removed inserted extent covered counted known = record {
  are = are;
  ordered = increasing_of n ordered;
  some = some;
  free = free;
  was = was;
  here = inserted.1;
  gone = inserted.2 at (is_at_other (at + length octets) at (λ same. absurd (omega (arith, same, some)))) ∙ removed.1;
  others = λ q not_end not_at. inserted.2 q (is_at_other (at + length octets) q not_end) ∙ removed.2 q (is_at_other at q not_at);
  extent = extent;
  covered = covered;
  counted = counted;
  known = known;
}

module _ {Z : Type 0} (m n : BTreeMap ℕ (Stretch Z)) (at : ℕ) (octets : List ℕ) (giver : Giver) (base new : Stretch Z) (x : Extends m n at octets giver base new) where
  abbrev end : ℕ
  end = at + length octets

  not_gone : (q : ℕ) (j : Stretch Z) → q ≡ at → EndsAt n q j → ⊥
  not_gone q j same is = no_value j (sym x.gone ∙ ap (get nat_cmp n) (sym same) ∙ is)

  is_new : (q : ℕ) (j : Stretch Z) → q ≡ end → EndsAt n q j → j ≡ new
  is_new q j same is = same_value j new (sym is ∙ ap (get nat_cmp n) same ∙ x.here)

  was_there : (q : ℕ) (j : Stretch Z) → (q ≡ end → ⊥) → (q ≡ at → ⊥) → EndsAt n q j → EndsAt m q j
  was_there q j not_end not_at is = sym (x.others q not_end not_at) ∙ is

  base_fits : extent_of base ≤ at
  base_fits = elim x.was [
    | inl is ↦ (x.are.each at base is).fits
    | inr none ↦ omega (arith, none.1)
  ]

  -- the island is the first that ends after the place
  new_first : (place : ℕ) → place < end → ((q : ℕ) (j : Stretch Z) → EndsAt m q j → (q ≡ at → ⊥) → place < q → end ≤ q) → IsFirstAfter n place end new
  new_first place lt rest = record {
    is = x.here;
    after = lt;
    first = λ q j is gt. elim (cases_eq q end) [
      | inl same ↦ omega (arith, same)
      | inr not_end ↦ elim (cases_eq q at) [
        | inl same ↦ absurd (not_gone q j same is)
        | inr not_at ↦ rest q j (was_there q j not_end not_at is) not_at gt
      ]
    ];
  }

  -- at a place of the octets
  among : (place : ℕ) → at ≤ place → place < end → held_at n.entries place ≡ option_or (held_at m.entries place) (piece_at at octets giver place)
  among place ge lt =
      let first = new_first place lt (λ q j is not gt. elim (x.free q j is) [
        | inl le ↦ absurd (omega (arith, le, ge, gt))
        | inr past ↦ omega (arith, past)
      ]) in
      let p : ℕ = place + extent_of new - end in
      let at_p : p ≡ extent_of base + (place - at) = omega (arith, x.extent, ge) in
      let none : held_at m.entries place ≡ None = free_is m x.are.ordered place (λ q j is. elim (x.free q j is) [
        | inl le ↦ inl (omega (arith, le, ge))
        | inr past ↦ inr (omega (arith, past, lt))
      ]) in
      let back : extent_of base + (place - at) - extent_of base ≡ place - at = omega arith in
      first_is n x.ordered place end new first
      ∙ island_within end new place (omega (arith, x.extent, ge))
      ∙ ap (λ (k : ℕ). known_at new.octets.items new.runs.items k) at_p
      ∙ x.known (extent_of base + (place - at))
      ∙ ap (λ (o : Option Given). option_or o (piece_at (extent_of base) octets giver (extent_of base + (place - at))))
      (known_past base.octets.items base.runs.items (extent_of base + (place - at)) (omega arith))
      ∙ piece_within (extent_of base) octets giver (extent_of base + (place - at)) (omega arith) (omega (arith, ge, lt))
      ∙ ap (λ (k : ℕ). Some (record { octet = get_or octets k 0; giver = giver })) back
      ∙ sym (ap (λ (o : Option Given). option_or o (piece_at at octets giver place)) none ∙ piece_within at octets giver place ge lt)

  -- after them
  behind : (place : ℕ) → end ≤ place → held_at n.entries place ≡ held_at m.entries place
  behind place ge =
      same_held m n place x.are.ordered x.ordered (λ q gt. x.others q (λ same. absurd (omega (arith, same, ge, gt))) (λ same. absurd (omega (arith, same, ge, gt, x.some))))

  -- before them, where the island was
  before_base : (place : ℕ) → place < at → EndsAt m at base → IsFirstAfter m place at base → held_at n.entries place ≡ held_at m.entries place
  before_base place lt is first =
      let now = new_first place (omega (arith, lt)) (λ q j there not gt. let least = first.first q j there gt in elim (x.free q j there) [
        | inl le ↦ absurd (not (omega (arith, le, least)))
        | inr past ↦ omega (arith, past)
      ]) in
      first_is n x.ordered place end new now
      ∙ elim (cases_lt (place + extent_of base) at) [
        | inl gap ↦ island_before end new place (omega (arith, gap, x.extent)) ∙ sym (island_before at base place gap)
        | inr within ↦
            let same : place + extent_of new - end ≡ place + extent_of base - at = omega (arith, x.extent) in
            let p : ℕ = place + extent_of base - at in
            island_within end new place (omega (arith, within, x.extent))
            ∙ ap (λ (k : ℕ). known_at new.octets.items new.runs.items k) same
            ∙ x.known p
            ∙ ap (λ (o : Option Given). option_or (known_at base.octets.items base.runs.items p) o) (piece_before (extent_of base) octets giver p (omega (arith, lt, within)))
            ∙ none_more (known_at base.octets.items base.runs.items p)
            ∙ sym (island_within at base place within)
      ]
      ∙ sym (first_is m x.are.ordered place at base first)

  -- nothing is given between the place and the octets, where no island was
  alone : (place : ℕ) → place < at → extent_of base ≡ 0 → ((q : ℕ) (j : Stretch Z) → EndsAt m q j → place < q → end ≤ q) → held_at n.entries place ≡ None
  alone place lt empty rest =
      first_is n x.ordered place end new (new_first place (omega (arith, lt)) (λ q j is not gt. rest q j is gt))
      ∙ island_before end new place (omega (arith, lt, x.extent, empty))

  before_other : (place e : ℕ) (i : Stretch Z) → place < at → e < at → IsFirstAfter m place e i → held_at n.entries place ≡ held_at m.entries place
  before_other place e i lt less first =
      first_is n x.ordered place e i (record {
        is = x.others e (λ same. absurd (omega (arith, same, less))) (λ same. absurd (omega (arith, same, less))) ∙ first.is;
        after = first.after;
        first = λ q j is gt. elim (cases_eq q end) [
          | inl same ↦ omega (arith, same, less)
          | inr not_end ↦ elim (cases_eq q at) [
            | inl same ↦ absurd (not_gone q j same is)
            | inr not_at ↦ first.first q j (was_there q j not_end not_at is) gt
          ]
        ];
      }) ∙ sym (first_is m x.are.ordered place e i first)

  before_later : (place e : ℕ) (i : Stretch Z) → place < at → at < e → IsFirstAfter m place e i → held_at n.entries place ≡ held_at m.entries place
  before_later place e i lt more first =
      let gap : end + extent_of i ≤ e = elim (x.free e i first.is) [
        | inl le ↦ absurd (omega (arith, le, more))
        | inr past ↦ past
      ] in
      let empty : extent_of base ≡ 0 = elim x.was [
        | inl is ↦ let least = first.first at base is lt in absurd (omega (arith, least, more))
        | inr none ↦ none.1
      ] in
      alone place lt empty (λ q j is gt. let least = first.first q j is gt in omega (arith, least, gap))
      ∙ sym (first_is m x.are.ordered place e i first ∙ island_before e i place (omega (arith, lt, gap)))

  before_none : (place : ℕ) → place < at → IsNoneAfter m place → held_at n.entries place ≡ held_at m.entries place
  before_none place lt none =
      let empty : extent_of base ≡ 0 = elim x.was [
        | inl is ↦ let le = none at base is in absurd (omega (arith, le, lt))
        | inr free ↦ free.1
      ] in
      alone place lt empty (λ q j is gt. let le = none q j is in absurd (omega (arith, le, gt))) ∙ sym (none_is m x.are.ordered place none)

  before : (place : ℕ) → place < at → held_at n.entries place ≡ held_at m.entries place
  before place lt = elim (some_or_none m x.are.ordered place) [
    | inr none ↦ before_none place lt none
    | inl some ↦ elim (cases_eq some.0 at) [
      | inr other ↦ elim (cases_lt some.0 at) [
        | inl less ↦ before_other place some.0 some.1 lt less some.2
        | inr more ↦ before_later place some.0 some.1 lt (omega (arith, more, other)) some.2
      ]
      | inl same ↦ elim x.was [
        | inr none ↦ absurd (no_value some.1 (sym none.0 ∙ ap (get nat_cmp m) (sym same) ∙ some.2.is))
        | inl is ↦
            let alike : some.1 ≡ base = same_value some.1 base (sym some.2.is ∙ ap (get nat_cmp m) same ∙ is) in
            before_base place lt is (subst (λ (s : Stretch Z). IsFirstAfter m place at s) alike (subst (λ (e : ℕ). IsFirstAfter m place e some.1) same some.2))
      ]
    ]
  ]

  pub held_extended : (place : ℕ) → held_at n.entries place ≡ option_or (held_at m.entries place) (piece_at at octets giver place)
  held_extended place = elim (cases_lt place at) [
    | inl lt ↦ before place lt ∙ sym (none_more (held_at m.entries place)) ∙ ap (λ (o : Option Given). option_or (held_at m.entries place) o) (sym (piece_before at octets giver place lt))
    | inr ge ↦ elim (cases_lt place end) [
      | inl lt ↦ among place ge lt
      | inr past ↦ behind place past ∙ sym (none_more (held_at m.entries place)) ∙ ap (λ (o : Option Given). option_or (held_at m.entries place) o) (sym (piece_past at octets giver place past))
    ]
  ]

  -- ---- they are held as they have to be

  new_island : IsIsland end new
  new_island = record {
    some = omega (arith, x.extent, x.some);
    fits = omega (arith, x.extent, base_fits);
    covered = x.covered;
    counted = x.counted;
  }

  -- an island before the octets ends before the one that they are in
  before_new : (a : ℕ) (i : Stretch Z) → EndsAt n a i → a < end → a + extent_of new ≤ end
  before_new a i is lt = elim (cases_eq a at) [
    | inl same ↦ absurd (not_gone a i same is)
    | inr not_at ↦
        let there = was_there a i (λ same. absurd (omega (arith, same, lt))) not_at is in
        elim (x.free a i there) [
          | inr past ↦ absurd (omega (arith, past, lt))
          | inl le ↦ elim x.was [
            | inl base_is ↦ let gap = x.are.apart a at i base there base_is (omega (arith, le, not_at)) in omega (arith, gap, x.extent)
            | inr none ↦ omega (arith, le, none.1, x.extent)
          ]
        ]
  ]

  after_new : (b : ℕ) (j : Stretch Z) → EndsAt m b j → end < b → end + extent_of j ≤ b
  after_new b j is lt = elim (x.free b j is) [
    | inl le ↦ absurd (omega (arith, le, lt))
    | inr past ↦ past
  ]

  pub islands_extended : AreIslands n
  islands_extended = record {
    ordered = x.ordered;
    each = λ q j is. elim (cases_eq q end) [
      | inl same ↦ subst (λ (s : Stretch Z). IsIsland q s) (sym (is_new q j same is)) (subst (λ (e : ℕ). IsIsland e new) (sym same) new_island)
      | inr not_end ↦ elim (cases_eq q at) [
        | inl same ↦ absurd (not_gone q j same is)
        | inr not_at ↦ x.are.each q j (was_there q j not_end not_at is)
      ]
    ];
    apart = λ a b i j is also lt. elim (cases_eq b end) [
      | inl same ↦
          let fits = before_new a i is (omega (arith, lt, same)) in
          let alike = ap extent_of (is_new b j same also) in
          omega (arith, fits, same, alike)
      | inr b_not_end ↦ elim (cases_eq b at) [
        | inl same ↦ absurd (not_gone b j same also)
        | inr b_not_at ↦
            let there = was_there b j b_not_end b_not_at also in
            elim (cases_eq a end) [
              | inl same ↦ let gap = after_new b j there (omega (arith, lt, same)) in omega (arith, gap, same)
              | inr a_not_end ↦ elim (cases_eq a at) [
                | inl same ↦ absurd (not_gone a i same is)
                | inr a_not_at ↦ x.are.apart a b i j (was_there a i a_not_end a_not_at is) there lt
              ]
            ]
      ]
    ];
  }

  pub after_extended : (known : ℕ) → known < at → AreAfter known m → AreAfter known n
  after_extended known less after = λ q j is. elim (cases_eq q end) [
    | inl same ↦
        let alike = ap extent_of (is_new q j same is) in
        elim x.was [
          | inl base_is ↦ let gap = after at base base_is in omega (arith, gap, same, alike, x.extent)
          | inr none ↦ omega (arith, less, same, alike, x.extent, none.1)
        ]
    | inr not_end ↦ elim (cases_eq q at) [
      | inl same ↦ absurd (not_gone q j same is)
      | inr not_at ↦ after q j (was_there q j not_end not_at is)
    ]
  ]

-- ---- how many octets they have

abbrev pub octets_in : {Z : Type 0} → List (ℕ × Stretch Z) → ℕ
octets_in es = sum_by extent_of (values_of es)

abbrev pub extent_or : {Z : Type 0} → Option (Stretch Z) → ℕ
extent_or island = unwrap_or (option_map extent_of island) 0

pub removed_octets : {Z : Type 0} (m : BTreeMap ℕ (Stretch Z)) (rest : List (ℕ × Stretch Z)) (at : ℕ) → rest ≡ remove_entry (is_at (nat_cmp at)) m.entries
    → octets_in rest + extent_or (get nat_cmp m at) ≡ octets_in m.entries
removed_octets m rest at is = ap (λ es. octets_in es + extent_or (get nat_cmp m at)) is ∙ sum_by-remove_entry extent_of (is_at (nat_cmp at)) m.entries

pub inserted_octets : {Z : Type 0} (m : BTreeMap ℕ (Stretch Z)) (more : List (ℕ × Stretch Z)) (end : ℕ) (island : Stretch Z) → IsOrdered nat_cmp m → more ≡ insert_entry nat_cmp m.entries end island
    → octets_in more ≤ octets_in m.entries + extent_of island
inserted_octets m more end island ordered is =
    let sum = sum_by-insert_entry extent_of nat_cmp_total m.entries end island ordered in
    let same = ap octets_in is in omega (arith, sum, same)

-- ---- no islands

empty_map : {Z : Type 0} (m : BTreeMap ℕ (Stretch Z)) → btree_map_len m ≡ 0 → (end : ℕ) (island : Stretch Z) → EndsAt m end island → ⊥
empty_map m empty end island is = no_value island (sym (ap (λ es. lookup (is_at (nat_cmp end)) es) (nil_from_length m.entries empty)) ∙ is)

sorted_nil : IsStrictlySortedBy nat_cmp []
unfolding IsStrictlySortedBy
sorted_nil = tt

pub empty_islands : {Z : Type 0} (m : BTreeMap ℕ (Stretch Z)) → btree_map_len m ≡ 0 → AreIslands m
empty_islands m empty = record {
  ordered = increasing_of m (subst (λ es. IsStrictlySortedBy nat_cmp (keys_of es)) (sym (nil_from_length m.entries empty)) sorted_nil);
  each = λ end island is. absurd (empty_map m empty end island is);
  apart = λ end later island other is also lt. absurd (empty_map m empty end island is);
}

pub empty_after : {Z : Type 0} (m : BTreeMap ℕ (Stretch Z)) (known : ℕ) → btree_map_len m ≡ 0 → AreAfter known m
empty_after m known empty = λ end island is. absurd (empty_map m empty end island is)

pub empty_held : {Z : Type 0} (m : BTreeMap ℕ (Stretch Z)) → btree_map_len m ≡ 0 → (place : ℕ) → held_at m.entries place ≡ None
empty_held {Z} m empty place = ap (λ es. held_at es place) (nil_from_length m.entries empty) ∙ held_none Z place

pub empty_octets : {Z : Type 0} (m : BTreeMap ℕ (Stretch Z)) → btree_map_len m ≡ 0 → octets_in m.entries ≡ 0
empty_octets m empty = ap (λ es. octets_in es) (nil_from_length m.entries empty)

-- ---- an island is known

-- The island that begins right after the octets known is put after them.
pub record Absorbs {Z : Type 0} (now later : Gathered Z) (end : ℕ) (island : Stretch Z) : Type 0 where
  pub are : AreIslands now.islands
  pub from : AreFrom (length now.known.octets.items) now.islands
  pub covered : total now.known.runs.items ≡ length now.known.octets.items
  pub is : EndsAt now.islands end island
  pub begins : length now.known.octets.items + extent_of island ≡ end
  pub octets : later.known.octets.items ≡ now.known.octets.items ++ island.octets.items
  pub runs : later.known.runs.items ≡ now.known.runs.items ++ island.runs.items
  pub ordered : IsOrdered nat_cmp later.islands
  pub gone : get nat_cmp later.islands end ≡ None
  pub others : (q : ℕ) → (q ≡ end → ⊥) → get nat_cmp later.islands q ≡ get nat_cmp now.islands q

module _ {Z : Type 0} (now later : Gathered Z) (end : ℕ) (island : Stretch Z) (x : Absorbs now later end island) where
  abbrev known : ℕ
  known = length now.known.octets.items

  known_length : length later.known.octets.items ≡ known + extent_of island
  known_length = ap length x.octets ∙ length-append now.known.octets.items island.octets.items

  known_later : (place : ℕ) → known_at later.known.octets.items later.known.runs.items place
      ≡ known_at (now.known.octets.items ++ island.octets.items) (now.known.runs.items ++ island.runs.items) place
  known_later place = ap (λ (os : List ℕ). known_at os later.known.runs.items place) x.octets ∙ ap (λ rs. known_at (now.known.octets.items ++ island.octets.items) rs place) x.runs

  below : (place : ℕ) → place < known → given_at later place ≡ given_at now place
  below place lt =
      let was = known_within now.known.octets.items now.known.runs.items place x.covered lt in
      known_given later place _ (known_later place ∙ join_left now.known.octets.items island.octets.items now.known.runs.items island.runs.items place x.covered lt ∙ was.1)
      ∙ sym (known_given now place _ was.1)

  within : (place : ℕ) → known ≤ place → place < end → given_at later place ≡ given_at now place
  within place ge lt =
      let is = x.are.each end island x.is in
      let there = known_within island.octets.items island.runs.items (place - known) is.covered (omega (arith, ge, lt, x.begins)) in
      let same : place + extent_of island - end ≡ place - known = omega (arith, x.begins, ge) in
      known_given later place _ (known_later place ∙ join_right now.known.octets.items island.octets.items now.known.runs.items island.runs.items place x.covered ge ∙ there.1)
      ∙ sym (held now place ge
      ∙ first_is now.islands x.are.ordered place end island (covers_first now.islands x.are place end island x.is lt (omega (arith, x.begins, ge)))
      ∙ island_within end island place (omega (arith, x.begins, ge))
      ∙ ap (λ (k : ℕ). known_at island.octets.items island.runs.items k) same ∙ there.1)

  past : (place : ℕ) → end ≤ place → given_at later place ≡ given_at now place
  past place ge =
      held later place (omega (arith, ge, x.begins, known_length))
      ∙ same_held now.islands later.islands place x.are.ordered (increasing_of later.islands x.ordered) (λ q gt. x.others q (λ same. absurd (omega (arith, same, ge, gt))))
      ∙ sym (held now place (omega (arith, ge, x.begins)))

  pub given_absorbed : (place : ℕ) → given_at later place ≡ given_at now place
  given_absorbed place = elim (cases_lt place known) [
    | inl lt ↦ below place lt
    | inr ge ↦ elim (cases_lt place end) [
      | inl lt ↦ within place ge lt
      | inr more ↦ past place more
    ]
  ]

  still_there : (q : ℕ) (j : Stretch Z) → EndsAt later.islands q j → (q ≡ end → ⊥) × EndsAt now.islands q j
  still_there q j is = elim (cases_eq q end) [
    | inl same ↦ absurd (no_value j (sym x.gone ∙ ap (get nat_cmp later.islands) (sym same) ∙ is))
    | inr other ↦ (other, sym (x.others q other) ∙ is)
  ]

  pub islands_absorbed : AreIslands later.islands
  islands_absorbed = record {
    ordered = increasing_of later.islands x.ordered;
    each = λ q j is. x.are.each q j (still_there q j is).1;
    apart = λ a b i j is also lt. x.are.apart a b i j (still_there a i is).1 (still_there b j also).1 lt;
  }

  pub from_absorbed : AreFrom (length later.known.octets.items) later.islands
  from_absorbed = λ q j is.
      let there = still_there q j is in
      let one = x.are.each end island x.is in
      let other = x.are.each q j there.1 in
      let least = x.from q j there.1 in
      elim (cases_lt q end) [
        | inl less ↦ let gap = x.are.apart q end j island there.1 x.is less in absurd (omega (arith, gap, least, x.begins, other.some))
        | inr more ↦ let gap = x.are.apart end q island j x.is there.1 (omega (arith, more, there.0)) in omega (arith, gap, x.begins, known_length)
      ]

  pub covered_absorbed : total later.known.runs.items ≡ length later.known.octets.items
  covered_absorbed =
      let sum : total later.known.runs.items ≡ total now.known.runs.items + total island.runs.items = ap total x.runs ∙ sum_by-append (λ run. run.count) now.known.runs.items island.runs.items in
      let is = x.are.each end island x.is in
      omega (arith, sum, x.covered, is.covered, known_length)

  pub counted_absorbed : AreCounted now.known.runs.items → AreCounted later.known.runs.items
  counted_absorbed counted =
      All-same (λ run. 1 ≤ run.count) later.known.runs.items (now.known.runs.items ++ island.runs.items) x.runs
      (All-append (λ run. 1 ≤ run.count) now.known.runs.items island.runs.items counted (x.are.each end island x.is).counted)

  pub size_absorbed : later.islands.entries ≡ remove_entry (is_at (nat_cmp end)) now.islands.entries → size later ≡ size now
  size_absorbed entries =
      let removed = removed_octets now.islands later.islands.entries end entries in
      let there : extent_or (get nat_cmp now.islands end) ≡ extent_of island = ap extent_or x.is in
      omega (arith, removed, there, known_length)

-- ---- all that is given

-- octets that weren't given were put after a hole
pub given_held : {Z : Type 0} (now later : Gathered Z) (at : ℕ) (octets : List ℕ) (giver : Giver) (base new : Stretch Z) → later.known ≡ now.known
    → Extends now.islands later.islands at octets giver base new → length now.known.octets.items ≤ at → total now.known.runs.items ≡ length now.known.octets.items
    → (place : ℕ) → given_at later place ≡ option_or (given_at now place) (piece_at at octets giver place)
given_held now later at octets giver base new same x after covered place =
    let known : known_at later.known.octets.items later.known.runs.items place ≡ known_at now.known.octets.items now.known.runs.items place =
    ap (λ (s : Stretch _). known_at s.octets.items s.runs.items place) same in
    given_is later place
    ∙ ap (λ (o : Option Given). option_or o (held_at later.islands.entries place)) known
    ∙ ap (λ (o : Option Given). option_or (known_at now.known.octets.items now.known.runs.items place) o) (held_extended now.islands later.islands at octets giver base new x place)
    ∙ or_assoc (known_at now.known.octets.items now.known.runs.items place) (held_at now.islands.entries place) (piece_at at octets giver place)
    ∙ sym (ap (λ (o : Option Given). option_or o (piece_at at octets giver place)) (given_is now place))

-- octets that weren't given were put after those that are known
pub given_appended : {Z : Type 0} (now later : Gathered Z) (octets : List ℕ) (giver : Giver) → later.islands ≡ now.islands → AreIslands now.islands
    → ((end : ℕ) (island : Stretch Z) → EndsAt now.islands end island
    → (end ≤ length now.known.octets.items) ⊎ (length now.known.octets.items + length octets + extent_of island ≤ end))
    → ((p : ℕ) → known_at later.known.octets.items later.known.runs.items p
    ≡ option_or (known_at now.known.octets.items now.known.runs.items p) (piece_at (length now.known.octets.items) octets giver p))
    → (place : ℕ) → given_at later place ≡ option_or (given_at now place) (piece_at (length now.known.octets.items) octets giver place)
given_appended now later octets giver same are free known place =
    let n = length now.known.octets.items in
    let K = known_at now.known.octets.items now.known.runs.items place in
    let H = held_at now.islands.entries place in
    let P = piece_at n octets giver place in
    let swapped : option_or P H ≡ option_or H P = elim (cases_lt place n) [
      | inl lt ↦ swapped_left P H (piece_before n octets giver place lt)
      | inr ge ↦ elim (cases_lt place (n + length octets)) [
        | inl lt ↦ swapped_right P H (free_is now.islands are.ordered place (λ q j is. elim (free q j is) [
          | inl le ↦ inl (omega (arith, le, ge))
          | inr past ↦ inr (omega (arith, past, lt))
        ]))
        | inr past ↦ swapped_left P H (piece_past n octets giver place past)
      ]
    ] in
    given_is later place
    ∙ ap (λ (o : Option Given). option_or o (held_at later.islands.entries place)) (known place)
    ∙ ap (λ (m : BTreeMap ℕ (Stretch _)). option_or (option_or K P) (held_at m.entries place)) same
    ∙ sym (or_assoc K P H)
    ∙ ap (λ (o : Option Given). option_or K o) swapped
    ∙ or_assoc K H P
    ∙ sym (ap (λ (o : Option Given). option_or o P) (given_is now place))
