-- Islands: which one a place is in.
use Rattle.std.proofs.Common.{◌≡◌, ◌<◌, ◌≤◌, ◌+◌, ◌-◌, ◌∙◌, ◌⊎◌, ℕ, Some, None, Option, List, [], ◌∷◌, nat_lt, cond, Bool, true, refl, sym, ap, arith, inl, inr}
use Rattle.std.specs.Option.{is_some}
use Rattle.std.specs.List.{AllByRecursion}
use Rattle.std.specs.List.Sorted.{IsStrictlySortedBy, IsStrictlyIncreasing}
use Rattle.std.specs.Map.{lookup, keys_of}
use Rattle.std.specs.BTreeMap.{BTreeMap, get, is_at, IsOrdered, keys}
use Rattle.std.specs.Ordering.{nat_cmp}
use Rattle.std.specs.declared.cmp.Ordering.TheVariants.{Less}
use Rattle.std.proofs.lemmas.Bool.{cases_eq, cases_lt, lt-ltb, le-ltb, le-leb, lt-leb}
use Rattle.std.proofs.lemmas.Cmp.{ranked}
use Rattle.std.proofs.lemmas.Map.Keys.{sorted_head, sorted_tail, below_from_sorted, sorted_from_strictly_increasing}
use Rattle.std.proofs.lemmas.Map.Entries.{lookup_head, lookup_tail}
use Rattle.streams.specs.declared.stretch.Stretch.{Stretch}
use Rattle.streams.specs.Given.{known_at, held_at, island_at, extent_of}
use Rattle.streams.specs.Islands.{EndsAt, IsNoneAfter, IsFirstAfter, IsIsland, AreIslands}
use Rattle.streams.proofs.Known.{known_within}
use Rattle.streams.proofs.Places.{is_at_other, is_at_same}

-- ---- a list of islands in their order

pub held_none : (Z : Type 0) (place : ℕ) → held_at {Z = Z} [] place ≡ None
unfolding held_at
held_none Z place = refl

module _ {Z : Type 0} where
  -- the island that ends right before the place
  abbrev ending : List (ℕ × Stretch Z) → ℕ → Option (Stretch Z)
  ending es q = lookup (is_at (nat_cmp q)) es

  no_island : (island : Stretch Z) → None ≡ Some island → ⊥
  no_island island e = absurd (cc)

  here : (k q : ℕ) (island : Stretch Z) (es : List (ℕ × Stretch Z)) → k ≡ q → ending ((k, island) ∷ es) q ≡ Some island
  here k q island es same = lookup_head (is_at (nat_cmp q)) (k, island) es (is_at_same q k same)

  elsewhere : (k q : ℕ) (island : Stretch Z) (es : List (ℕ × Stretch Z)) → (k ≡ q → ⊥) → ending ((k, island) ∷ es) q ≡ ending es q
  elsewhere k q island es apart = lookup_tail (is_at (nat_cmp q)) (k, island) es (is_at_other q k apart)

  -- what stands behind the first ends after it
  later_end : (k q : ℕ) (es : List (ℕ × Stretch Z)) (island : Stretch Z) → AllByRecursion (λ y. nat_cmp k y ≡ Less) (keys_of es) → ending es q ≡ Some island → k < q
  later_end k q [] island above is = absurd (no_island island is)
  later_end k q ((key, one) ∷ es) island above is = elim (cases_eq key q) [
    | inl same ↦ let lt : k < key = ranked k key Less (sym above.0) in omega (arith, lt, same)
    | inr other ↦ later_end k q es island above.1 (sym (elsewhere key q one es other) ∙ is)
  ]

  -- so it is one of the whole list
  later_is : (k q : ℕ) (one : Stretch Z) (es : List (ℕ × Stretch Z)) (island : Stretch Z) → IsStrictlySortedBy nat_cmp (keys_of ((k, one) ∷ es)) → ending es q ≡ Some island
      → (k < q) × (ending ((k, one) ∷ es) q ≡ Some island)
  later_is k q one es island sorted is =
      let lt = later_end k q es island (sorted_head nat_cmp k (keys_of es) sorted) is in
      (lt, elsewhere k q one es (λ same. absurd (omega (arith, lt, same))) ∙ is)

  held_cons : (k : ℕ) (one : Stretch Z) (es : List (ℕ × Stretch Z)) (place : ℕ) → held_at ((k, one) ∷ es) place ≡ cond (nat_lt place k) (island_at k one place) (held_at es place)
  unfolding held_at
  held_cons k one es place = refl

  held_here : (k : ℕ) (one : Stretch Z) (es : List (ℕ × Stretch Z)) (place : ℕ) → place < k → held_at ((k, one) ∷ es) place ≡ island_at k one place
  held_here k one es place lt = held_cons k one es place ∙ ap (λ (t : Bool). cond t (island_at k one place) (held_at es place)) (lt-ltb place k lt)

  held_later : (k : ℕ) (one : Stretch Z) (es : List (ℕ × Stretch Z)) (place : ℕ) → k ≤ place → held_at ((k, one) ∷ es) place ≡ held_at es place
  held_later k one es place ge = held_cons k one es place ∙ ap (λ (t : Bool). cond t (island_at k one place) (held_at es place)) (le-ltb place k ge)

  -- the first island that ends after the place has its octet
  first_holds : (es : List (ℕ × Stretch Z)) (place end : ℕ) (island : Stretch Z) → IsStrictlySortedBy nat_cmp (keys_of es) → ending es end ≡ Some island → place < end
      → ((other : ℕ) (one : Stretch Z) → ending es other ≡ Some one → place < other → end ≤ other) → held_at es place ≡ island_at end island place
  first_holds [] place end island sorted is after first = absurd (no_island island is)
  first_holds ((k, one) ∷ es) place end island sorted is after first = elim (cases_eq k end) [
    | inl same ↦
        let both : Some one ≡ Some island = sym (here k end one es same) ∙ is in
        let alike : one ≡ island = cc in
        held_here k one es place (omega (arith, after, same)) ∙ ap (λ (e : ℕ). island_at e one place) same ∙ ap (λ (s : Stretch Z). island_at end s place) alike
    | inr other ↦
        let there : ending es end ≡ Some island = sym (elsewhere k end one es other) ∙ is in
        let lt = later_end k end es island (sorted_head nat_cmp k (keys_of es) sorted) there in
        elim (cases_lt place k) [
          | inl before ↦ let least = first k one (here k k one es refl) before in absurd (omega (arith, least, lt))
          | inr past ↦ held_later k one es place past ∙ first_holds es place end island (sorted_tail nat_cmp k (keys_of es) sorted) there after
              (λ q j at gt. first q j (later_is k q one es j sorted at).1 gt)
        ]
  ]

  -- a place that none of them covers is free
  none_holds : (es : List (ℕ × Stretch Z)) (place : ℕ) → IsStrictlySortedBy nat_cmp (keys_of es)
      → ((end : ℕ) (island : Stretch Z) → ending es end ≡ Some island → (end ≤ place) ⊎ (place + extent_of island < end)) → held_at es place ≡ None
  none_holds [] place sorted free = held_none Z place
  none_holds ((k, one) ∷ es) place sorted free =
      let rest = none_holds es place (sorted_tail nat_cmp k (keys_of es) sorted) (λ q j at. free q j (later_is k q one es j sorted at).1) in
      elim (cases_lt place k) [
        | inr past ↦ held_later k one es place past ∙ rest
        | inl before ↦ elim (free k one (here k k one es refl)) [
          | inl le ↦ absurd (omega (arith, le, before))
          | inr gap ↦ held_here k one es place before
              ∙ ap (λ (t : Bool). cond t (known_at one.octets.items one.runs.items (place + extent_of one - k)) None) (lt-leb k (place + extent_of one) gap)
        ]
      ]

  -- there is a first one that ends after the place, or none
  first_or_none : (es : List (ℕ × Stretch Z)) (place : ℕ) → IsStrictlySortedBy nat_cmp (keys_of es)
      → ((end : ℕ) × (island : Stretch Z) × (ending es end ≡ Some island) × (place < end)
      × ((other : ℕ) (one : Stretch Z) → ending es other ≡ Some one → place < other → end ≤ other))
      ⊎ ((end : ℕ) (island : Stretch Z) → ending es end ≡ Some island → end ≤ place)
  first_or_none [] place sorted = inr (λ end island is. absurd (no_island island is))
  first_or_none ((k, one) ∷ es) place sorted = elim (cases_lt place k) [
    | inl before ↦ inl (
      k,
      one,
      here k k one es refl,
      before,
      λ q j at gt. elim (cases_eq k q) [
        | inl same ↦ omega (arith, same)
        | inr other ↦ let lt = (later_end k q es j (sorted_head nat_cmp k (keys_of es) sorted) (sym (elsewhere k q one es other) ∙ at)) in omega (arith, lt)
      ],
    )
    | inr past ↦ elim (first_or_none es place (sorted_tail nat_cmp k (keys_of es) sorted)) [
      | inl some ↦ inl (
        some.0,
        some.1,
        (later_is k some.0 one es some.1 sorted some.2).1,
        some.3,
        λ q j at gt. elim (cases_eq k q) [
          | inl same ↦ absurd (omega (arith, same, past, gt))
          | inr other ↦ some.4 q j (sym (elsewhere k q one es other) ∙ at) gt
        ],
      )
      | inr none ↦ inr (λ q j at. elim (cases_eq k q) [
        | inl same ↦ omega (arith, same, past)
        | inr other ↦ none q j (sym (elsewhere k q one es other) ∙ at)
      ])
    ]
  ]

-- ---- islands

-- keys that rise are in their order, and the other way round
pub increasing_of : {Z : Type 0} (islands : BTreeMap ℕ (Stretch Z)) → IsOrdered nat_cmp islands → IsStrictlyIncreasing (keys islands)
increasing_of islands ordered k lt = below_from_sorted (keys islands) k (k + 1) 0 ordered (omega arith) lt

module _ {Z : Type 0} (islands : BTreeMap ℕ (Stretch Z)) (rising : IsStrictlyIncreasing (keys islands)) where
  ordered : IsOrdered nat_cmp islands
  ordered = sorted_from_strictly_increasing (keys islands) rising

  pub first_is : (place end : ℕ) (island : Stretch Z) → IsFirstAfter islands place end island → held_at islands.entries place ≡ island_at end island place
  first_is place end island is = first_holds islands.entries place end island ordered is.is is.after is.first

  pub none_is : (place : ℕ) → IsNoneAfter islands place → held_at islands.entries place ≡ None
  none_is place none = none_holds islands.entries place ordered (λ end island is. inl (none end island is))

  pub free_is : (place : ℕ) → ((end : ℕ) (island : Stretch Z) → EndsAt islands end island → (end ≤ place) ⊎ (place + extent_of island < end)) → held_at islands.entries place ≡ None
  free_is place free = none_holds islands.entries place ordered free

  -- there is a first one after the place, or none
  pub some_or_none : (place : ℕ) → ((end : ℕ) × (island : Stretch Z) × IsFirstAfter islands place end island) ⊎ IsNoneAfter islands place
  some_or_none place = elim (first_or_none islands.entries place ordered) [
    | inl some ↦ inl (some.0, some.1, record { is = some.2; after = some.3; first = some.4 })
    | inr none ↦ inr none
  ]

-- what a place holds depends on what ends after it
pub same_held : {Z : Type 0} (one other : BTreeMap ℕ (Stretch Z)) (place : ℕ) → IsStrictlyIncreasing (keys one) → IsStrictlyIncreasing (keys other)
    → ((q : ℕ) → place < q → get nat_cmp other q ≡ get nat_cmp one q) → held_at other.entries place ≡ held_at one.entries place
same_held {Z} one other place ordered also same = elim (some_or_none one ordered place) [
  | inl some ↦
      let first = some.2 in
      first_is other also place some.0 some.1 (record {
        is = same some.0 first.after ∙ first.is;
        after = first.after;
        first = λ q j at gt. first.first q j (sym (same q gt) ∙ at) gt;
      }) ∙ sym (first_is one ordered place some.0 some.1 first)
  | inr none ↦ none_is other also place (λ q j at. elim (cases_lt place q) [
    | inl gt ↦ none q j (sym (same q gt) ∙ at)
    | inr le ↦ le
  ]) ∙ sym (none_is one ordered place none)
]

-- an island that covers the place is the first that ends after it
pub covers_first : {Z : Type 0} (islands : BTreeMap ℕ (Stretch Z)) → AreIslands islands → (place end : ℕ) (island : Stretch Z) → EndsAt islands end island → place < end
    → end ≤ place + extent_of island → IsFirstAfter islands place end island
covers_first {Z} islands are place end island is after covers = record {
  is = is;
  after = after;
  first = λ q j at gt. elim (cases_lt q end) [
    | inl less ↦ let gap = are.apart q end j island at is less in absurd (omega (arith, gap, gt, covers))
    | inr ge ↦ ge
  ];
}

-- its octet at the place
pub island_within : {Z : Type 0} (end : ℕ) (island : Stretch Z) (place : ℕ) → end ≤ place + extent_of island
    → island_at end island place ≡ known_at island.octets.items island.runs.items (place + extent_of island - end)
island_within end island place ge =
    ap (λ (t : Bool). cond t (known_at island.octets.items island.runs.items (place + extent_of island - end)) None) (le-leb end (place + extent_of island) ge)

pub island_before : {Z : Type 0} (end : ℕ) (island : Stretch Z) (place : ℕ) → place + extent_of island < end → island_at end island place ≡ None
island_before end island place lt =
    ap (λ (t : Bool). cond t (known_at island.octets.items island.runs.items (place + extent_of island - end)) None) (lt-leb end (place + extent_of island) lt)

-- it is given there
pub island_gives : {Z : Type 0} (end : ℕ) (island : Stretch Z) (place : ℕ) → IsIsland end island → end ≤ place + extent_of island → place < end
    → is_some (island_at end island place) ≡ true
island_gives end island place is ge lt =
    let known = known_within island.octets.items island.runs.items (place + extent_of island - end) is.covered (omega (arith, ge, lt, is.fits)) in
    ap is_some (island_within end island place ge ∙ known.1)
