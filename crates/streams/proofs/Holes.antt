-- The first hole in what is given is found: fewer octets are given than are looked at.
use Rattle.std.proofs.Common.{◌≡◌, ◌<◌, ◌≤◌, ◌+◌, ◌-◌, ◌∙◌, ℕ, Some, None, Option, Bool, true, false, cond, List, [], ◌∷◌, refl, sym, ap, arith, zero, suc, inl, inr, length, min, subst}
use Rattle.std.specs.Option.{option_or, is_some}
use Rattle.std.proofs.lemmas.Bool.{cases_lt, cases_eq, cases_Bool}
use Rattle.std.proofs.lemmas.List.{length-drop}
use Rattle.streams.specs.declared.gathered.Given.{Given}
use Rattle.streams.specs.declared.gathered.Giver.{Giver}
use Rattle.streams.specs.declared.passed.Side.{Side}
use Rattle.streams.specs.Given.{piece_at}
use Rattle.streams.specs.Passed.{Segment, giver_of}
use Rattle.streams.specs.History.{start_of, count_of, first_hole, given_of, acknowledged_of, next_of, piece_in, placed}
use Rattle.streams.proofs.Pieces.{piece_before, piece_past}
use Rattle.streams.proofs.Histories.{given_other}
use Rattle.streams.proofs.Moments.{own_given, cases_side, nothing, own_count, other_count}

-- how many of the first places are given
abbrev pub counted : (ℕ → Option Given) → ℕ → ℕ
counted given zero = 0
counted given (suc n) = counted given n + cond (is_some (given n)) 1 0

one_more : (f : ℕ → Option Given) (n : ℕ) (t : Bool) → is_some (f n) ≡ t → counted f (suc n) ≡ counted f n + cond t 1 0
one_more f n t e = ap (λ (b : Bool). counted f n + cond b 1 0) e

at_most_one_more : (f : ℕ → Option Given) (n : ℕ) → counted f (suc n) ≤ counted f n + 1
at_most_one_more f n = elim (cases_Bool (is_some (f n))) [
  | inl e ↦ omega (arith, one_more f n true e)
  | inr e ↦ omega (arith, one_more f n false e)
]

or_none : (o : Option Given) → is_some (option_or o None) ≡ is_some o
or_none None = refl
or_none (Some x) = refl

-- a piece gives no more places than it has octets
counted_more : (f g : ℕ → Option Given) (first : ℕ) (octets : List ℕ) (giver : Giver)
    → ((p : ℕ) → f p ≡ option_or (g p) (piece_at first octets giver p)) → (n : ℕ)
    → counted f n ≤ counted g n + (min n (first + length octets) - min n first)
counted_more f g first octets giver is zero = omega arith
counted_more f g first octets giver is (suc n) =
    let rest = counted_more f g first octets giver is n in
    elim (cases_Bool (is_some (g n))) [
      | inl given ↦ omega (arith, rest, at_most_one_more f n, one_more g n true given)
      | inr free ↦
          let same = λ (none : piece_at first octets giver n ≡ None). ap is_some (is n ∙ ap (λ o. option_or (g n) o) none) ∙ or_none (g n) ∙ free in
          elim (cases_lt n first) [
            | inl lt ↦ omega (arith, rest, one_more f n false (same (piece_before first octets giver n lt)), one_more g n false free)
            | inr ge ↦ elim (cases_lt n (first + length octets)) [
              | inl lt ↦ omega (arith, rest, at_most_one_more f n, one_more g n false free)
              | inr past ↦ omega (arith, rest, one_more f n false (same (piece_past first octets giver n past)), one_more g n false free)
            ]
          ]
    ]

counted_same : (f g : ℕ → Option Given) → ((p : ℕ) → f p ≡ g p) → (n : ℕ) → counted f n ≡ counted g n
counted_same f g same zero = refl
counted_same f g same (suc n) =
    ap (λ (o : Option Given). counted f n + cond (is_some o) 1 0) (same n)
    ∙ ap (λ (k : ℕ). k + cond (is_some (g n)) 1 0) (counted_same f g same n)

counted_none : (f : ℕ → Option Given) → ((p : ℕ) → f p ≡ None) → (n : ℕ) → counted f n ≡ 0
counted_none f none zero = refl
counted_none f none (suc n) = omega (arith, counted_none f none n, one_more f n false (ap is_some (none n)))

counted_all : (f : ℕ → Option Given) (n : ℕ) → ((p : ℕ) → p < n → is_some (f p) ≡ true) → counted f n ≡ n
counted_all f zero all = refl
counted_all f (suc n) all =
    omega (arith, counted_all f n (λ p lt. all p (omega (arith, lt))), one_more f n true (all n (omega arith)))

-- what the first hole is
record IsHole (given : ℕ → Option Given) (place limit k : ℕ) : Type 0 where
  ge : place ≤ k
  within : k ≤ place + limit
  full : (p : ℕ) → place ≤ p → p < k → is_some (given p) ≡ true
  hole : k < place + limit → is_some (given k) ≡ false

hole_of : (given : ℕ → Option Given) (place limit : ℕ) → IsHole given place limit (first_hole given place limit)
hole_of given place zero = record {
  ge = omega arith;
  within = omega arith;
  full = λ p ge lt. absurd (omega (arith, ge, lt));
  hole = λ lt. absurd (omega (arith, lt));
}
hole_of given place (suc limit) = elim (cases_Bool (is_some (given place))) [
  | inl here ↦
      let rest = hole_of given (place + 1) limit in
      subst (IsHole given place (suc limit)) (sym (ap (λ (t : Bool). cond t (first_hole given (place + 1) limit) place) here)) (record {
        ge = omega (arith, rest.ge);
        within = omega (arith, rest.within);
        full = λ p ge lt. elim (cases_eq p place) [
          | inl e ↦ ap (λ (k : ℕ). is_some (given k)) e ∙ here
          | inr ne ↦ rest.full p (omega (arith, ge, ne)) lt
        ];
        hole = λ lt. rest.hole (omega (arith, lt));
      })
  | inr none ↦
      subst (IsHole given place (suc limit)) (sym (ap (λ (t : Bool). cond t (first_hole given (place + 1) limit) place) none)) (record {
        ge = omega arith;
        within = omega arith;
        full = λ p ge lt. absurd (omega (arith, ge, lt));
        hole = λ lt. none;
      })
]

-- where no more places are given than are looked at, it is a hole
hole_found : (f : ℕ → Option Given) (c : ℕ) → ((n : ℕ) → counted f n ≤ c) → is_some (f (first_hole f 0 c)) ≡ false
hole_found f c few =
    let k = first_hole f 0 c in
    let facts = hole_of f 0 c in
    elim (cases_lt k c) [
      | inl lt ↦ facts.hole (omega (arith, lt))
      | inr ge ↦ elim (cases_Bool (is_some (f k))) [
        | inr none ↦ none
        | inl given ↦
            let all = λ (p : ℕ) (lt : p < suc k). elim (cases_eq p k) as (λ _. is_some (f p) ≡ true) [
              | inl e ↦ ap (λ (q : ℕ). is_some (f q)) e ∙ given
              | inr ne ↦ facts.full p (omega arith) (omega (arith, lt, ne))
            ] in
            absurd (omega (arith, ge, counted_all f (suc k) all, few (suc k)))
      ]
    ]

piece_short : (s : Segment) (start : Option ℕ) (next bound : ℕ) → length (piece_in s start next bound).octets ≤ length s.octets
piece_short s None next bound = omega arith
piece_short s (Some start) next bound = omega (arith, length-drop {A = ℕ})

given_few : (side : Side) (segments : List Segment) (n : ℕ) → counted (given_of side segments) n ≤ count_of side segments
given_few side [] n = omega (arith, counted_none (given_of side []) (λ p. nothing side p) n)
given_few side (s ∷ before) n = elim (cases_side s.sender side) [
  | inl own ↦
      omega (
        arith,
        counted_more (given_of side (s ∷ before)) (given_of side before) (placed s before).first (placed s before).octets (giver_of s) (λ p. own_given s side before p own) n,
        given_few side before n,
        piece_short s (start_of s.sender (s ∷ before)) (next_of s.sender before) (acknowledged_of s.sender before),
        own_count s side before own,
      )
  | inr other ↦
      omega (arith, counted_same (given_of side (s ∷ before)) (given_of side before) (λ p. given_other s side before p other) n, given_few side before n, other_count s side before other)
]

none_is : (o : Option Given) → is_some o ≡ false → o ≡ None
none_is None h = refl
none_is (Some x) h = absurd (grind arith)

-- the place after those known isn't given, and all before it are
pub next_lacks : (side : Side) (segments : List Segment) → given_of side segments (next_of side segments) ≡ None
next_lacks side segments = none_is _ (hole_found (given_of side segments) (count_of side segments) (given_few side segments))

pub below_next : (side : Side) (segments : List Segment) (p : ℕ) → p < next_of side segments → is_some (given_of side segments p) ≡ true
below_next side segments p lt = (hole_of (given_of side segments) 0 (count_of side segments)).full p (omega arith) lt
