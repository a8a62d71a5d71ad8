-- Numbers below 1000 with three digits: the table of all of them.
use Rattle.std.proofs.Common.{◌≡◌, ◌∙◌, ℕ, zero, suc, ◌+◌, ◌-◌, ◌*◌, ◌<◌, ◌≤◌, ◌&&◌, Bool, true, List, length, take, refl, inl, inr, arith}
use Rattle.std.specs.Prelude.{bytes_eq}
use Rattle.std.specs.List.{between}
use Rattle.std.specs.Fmt.{decimal}
use Rattle.std.proofs.lemmas.Bool.{and_parts, cases_lt}
use Rattle.std.proofs.lemmas.List.Edits.{length-between}
use Rattle.std.proofs.lemmas.Slice.Eq.{bytes_eq-Decides}
use Rattle.json_writer.specs.Places.{three_digits}
use Rattle.json_writer.specs.declared.places.TheConstants.{THREES}
use Rattle.json_writer.proofs.Dotted.{has_one, has_three, has_two, one_digit, two_digits}

-- the last digits of a number in the table, and what stands behind them up to four places
abbrev pub last_of : (count n : ℕ) → List ℕ
last_of count n = between (4 * n + (3 - count)) (4 * n + (3 - count) + 4) THREES

pub four_of : (count n : ℕ) → n < 1000 → length (last_of count n) ≡ 4
four_of count n h = length-between THREES (4 * n + (3 - count)) (4 * n + (3 - count) + 4) (omega arith) ∙ omega arith

-- all three
abbrev pub threes_of : ℕ → List ℕ
threes_of n = between (4 * n) (4 * n + 4) THREES

pub four_places : (n : ℕ) → n < 1000 → length (threes_of n) ≡ 4
four_places n h = length-between THREES (4 * n) (4 * n + 4) (omega arith) ∙ omega arith

-- the table has these digits of a number: a test, which computes
abbrev is_listed : (ℕ → List ℕ) → ℕ → Bool
is_listed digits n = bytes_eq (take (length (digits n)) (last_of (length (digits n)) n)) (digits n)

-- the test of so many numbers from the first on
abbrev are_listed : (ℕ → List ℕ) → ℕ → ℕ → Bool
are_listed digits first zero = true
are_listed digits first (suc n) = is_listed digits (first + n) && are_listed digits first n

each : (digits : ℕ → List ℕ) (first n k : ℕ) → are_listed digits first n ≡ true → k < n → is_listed digits (first + k) ≡ true
each digits first zero k h lt = absurd (omega arith)
each digits first (suc n) k h lt =
    let parts = and_parts (is_listed digits (first + n)) (are_listed digits first n) h in
    elim (cases_lt k n) [
      | inl less ↦ each digits first n k parts.1 less
      | inr top ↦
          let e : k ≡ n = omega arith in
          rw e parts.0
    ]

in_table : (digits : ℕ → List ℕ) (first count n : ℕ) → are_listed digits first count ≡ true → first ≤ n → n < first + count
    → take (length (digits n)) (last_of (length (digits n)) n) ≡ digits n
in_table digits first count n h lo hi =
    let e : first + (n - first) ≡ n = omega arith in
    let passed : is_listed digits n ≡ true = rw e at (each digits first count (n - first) h (omega arith)) in
    (bytes_eq-Decides (take (length (digits n)) (last_of (length (digits n)) n)) (digits n)).0 passed

pub three : (n : ℕ) → n < 1000 → take 3 (threes_of n) ≡ three_digits n
three n h =
    let e : 4 * n + (3 - 3) ≡ 4 * n = omega arith in
    rw e at (in_table three_digits 0 1000 n refl (omega arith) (omega arith))

-- those that the number has in decimal
pub plain : (n : ℕ) → n < 1000 → take (length (decimal n)) (last_of (length (decimal n)) n) ≡ decimal n
plain n h =
    elim (cases_lt n 10) [
      | inl one ↦ rw (has_one n one) (in_table one_digit 0 10 n refl (omega arith) (omega arith))
      | inr more ↦
          elim (cases_lt n 100) [
            | inl two ↦ rw (has_two n (omega arith) two) (in_table two_digits 10 90 n refl (omega arith) (omega arith))
            | inr three ↦ rw (has_three n (omega arith) h) (in_table three_digits 0 1000 n refl (omega arith) (omega arith))
          ]
    ]
