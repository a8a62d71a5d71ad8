-- The digits of octets, piece by piece, and the table of those of each octet.
use Rattle.std.proofs.Common.{◌≡◌, ◌++◌, ◌∷◌, [], ℕ, zero, suc, ◌+◌, ◌*◌, ◌<◌, ◌&&◌, Bool, true, List, ap, refl, inl, inr, arith, slice_index, get_or, ◌/◌, ◌%◌}
use Rattle.std.specs.Prelude.{bytes_eq}
use Rattle.std.proofs.lemmas.Bool.{and_parts, cases_lt}
use Rattle.std.proofs.lemmas.Slice.Eq.{bytes_eq-Decides}
use Rattle.hex.specs.Hex.{encode_with, encode_lower, lower_digits}
use Rattle.bgp_text.specs.declared.writing.TheConstants.{PAIRS}

pub no_digits : encode_lower [] ≡ []
unfolding encode_with
no_digits = refl

pub encode_with-append : (table xs ys : List ℕ) → encode_with table (xs ++ ys) ≡ encode_with table xs ++ encode_with table ys
unfolding encode_with
encode_with-append table [] ys = refl
encode_with-append table (x ∷ xs) ys =
    ap (λ (rest : List ℕ). slice_index table (x / 16) ∷ slice_index table (x % 16) ∷ rest) (encode_with-append table xs ys)

-- the two digits of an octet
abbrev pub digits_of : ℕ → List ℕ
digits_of octet = slice_index lower_digits (octet / 16) ∷ slice_index lower_digits (octet % 16) ∷ []

-- an octet's two places in the table
abbrev pub pair_at : ℕ → List ℕ
pair_at octet = get_or PAIRS (2 * octet) 0 ∷ get_or PAIRS (2 * octet + 1) 0 ∷ []

-- the test of the first n octets, which computes
abbrev are_pairs : ℕ → Bool
are_pairs zero = true
are_pairs (suc n) = bytes_eq (pair_at n) (digits_of n) && are_pairs n

each : (n k : ℕ) → are_pairs n ≡ true → k < n → bytes_eq (pair_at k) (digits_of k) ≡ true
each zero k h lt = absurd (omega arith)
each (suc n) k h lt =
    let parts = and_parts (bytes_eq (pair_at n) (digits_of n)) (are_pairs n) h in
    elim (cases_lt k n) [
      | inl less ↦ each n k parts.1 less
      | inr top ↦
          let e : k ≡ n = omega arith in
          rw e parts.0
    ]

-- the table has the digits of each octet
pub pair_is : (octet : ℕ) → octet < 256 → pair_at octet ≡ encode_lower (octet ∷ [])
unfolding encode_with
pair_is octet h = (bytes_eq-Decides (pair_at octet) (digits_of octet)).0 (each 256 octet refl h)
