-- Octets in decimal: their digits, and the table of all of them.
use Rattle.std.proofs.Common.{◌≡◌, ◌∙◌, ℕ, zero, suc, ◌+◌, ◌-◌, ◌*◌, ◌/◌, ◌%◌, ◌<◌, ◌≤◌, ◌&&◌, Bool, true, List, [], ◌∷◌, ◌++◌, length, take, ap, refl, sym, inl, inr, arith, take-take}
use Rattle.std.specs.Prelude.{bytes_eq}
use Rattle.std.specs.List.{between}
use Rattle.std.specs.Fmt.{decimal}
use Rattle.std.proofs.lemmas.Bool.{and_parts, cases_lt}
use Rattle.std.proofs.lemmas.Fmt.{decimal_digit, decimal_step}
use Rattle.std.proofs.lemmas.List.{take_at}
use Rattle.std.proofs.lemmas.List.Edits.{length-between}
use Rattle.std.proofs.lemmas.Slice.Eq.{bytes_eq-Decides}
use Rattle.json_writer.specs.Places.{three_digits}
use Rattle.json_writer.specs.declared.places.TheConstants.{DOTTED}

-- the digits of numbers that have one and two
abbrev pub one_digit : ℕ → List ℕ
one_digit n = (48 + n) ∷ []

abbrev pub two_digits : ℕ → List ℕ
two_digits n = (48 + n / 10) ∷ (48 + n % 10) ∷ []

pub has_one : (n : ℕ) → n < 10 → decimal n ≡ one_digit n
has_one n h = decimal_digit n h

pub has_two : (n : ℕ) → 10 ≤ n → n < 100 → decimal n ≡ two_digits n
has_two n lo hi = rw (decimal_step n lo (omega arith), has_one (n / 10) (omega arith)) refl

pub has_three : (n : ℕ) → 100 ≤ n → n < 1000 → decimal n ≡ three_digits n
has_three n lo hi = rw (decimal_step n (omega arith) (omega arith), has_two (n / 10) (omega arith) (omega arith)) refl

-- an octet's four places in the table
abbrev pub places_of : ℕ → List ℕ
places_of n = between (4 * n) (4 * n + 4) DOTTED

pub four_places : (n : ℕ) → n < 256 → length (places_of n) ≡ 4
four_places n h = length-between DOTTED (4 * n) (4 * n + 4) (omega arith) ∙ omega arith

-- the places of a number have these digits and a dot: a test, which computes
abbrev is_dotted : (ℕ → List ℕ) → ℕ → Bool
is_dotted digits n = bytes_eq (take (length (digits n) + 1) (places_of n)) (digits n ++ 46 ∷ [])

-- the test of so many numbers from the first on
abbrev are_dotted : (ℕ → List ℕ) → ℕ → ℕ → Bool
are_dotted digits first zero = true
are_dotted digits first (suc n) = is_dotted digits (first + n) && are_dotted digits first n

each : (digits : ℕ → List ℕ) (first n k : ℕ) → are_dotted digits first n ≡ true → k < n → is_dotted digits (first + k) ≡ true
each digits first zero k h lt = absurd (omega arith)
each digits first (suc n) k h lt =
    let parts = and_parts (is_dotted digits (first + n)) (are_dotted digits first n) h in
    elim (cases_lt k n) [
      | inl less ↦ each digits first n k parts.1 less
      | inr top ↦
          let e : k ≡ n = omega arith in
          rw e parts.0
    ]

in_table : (digits : ℕ → List ℕ) (first count n : ℕ) → are_dotted digits first count ≡ true → first ≤ n → n < first + count
    → decimal n ≡ digits n → take (length (decimal n) + 1) (places_of n) ≡ decimal n ++ 46 ∷ []
in_table digits first count n h lo hi is =
    let e : first + (n - first) ≡ n = omega arith in
    let passed : is_dotted digits n ≡ true = rw e at (each digits first count (n - first) h (omega arith)) in
    rw is ((bytes_eq-Decides (take (length (digits n) + 1) (places_of n)) (digits n ++ 46 ∷ [])).0 passed)

-- an octet's places have its digits, and a dot behind them
pub dotted : (n : ℕ) → n < 256 → take (length (decimal n) + 1) (places_of n) ≡ decimal n ++ 46 ∷ []
dotted n h =
    elim (cases_lt n 10) [
      | inl one ↦ in_table one_digit 0 10 n refl (omega arith) (omega arith) (has_one n one)
      | inr more ↦
          elim (cases_lt n 100) [
            | inl two ↦ in_table two_digits 10 90 n refl (omega arith) (omega arith) (has_two n (omega arith) two)
            | inr three ↦ in_table three_digits 100 156 n refl (omega arith) (omega arith) (has_three n (omega arith) (omega arith))
          ]
    ]

-- the digits alone
pub plain : (n : ℕ) → n < 256 → take (length (decimal n)) (places_of n) ≡ decimal n
plain n h =
    sym (take-take (length (decimal n)) (length (decimal n) + 1) (places_of n) (omega arith))
    ∙ ap (take (length (decimal n))) (dotted n h)
    ∙ take_at (decimal n) (46 ∷ []) (length (decimal n)) refl
