-- The digits of octets, piece by piece, and the table of those of each octet.
use Rattle.std.proofs.Common.{◌≡◌, ◌++◌, ◌∷◌, [], ℕ, zero, suc, ◌+◌, ◌*◌, ◌<◌, ◌&&◌, Bool, true, List, ap, refl, inl, inr, arith, slice_index, get_or, ◌/◌, ◌%◌, ◌==◌, nat_lt, not}
use Rattle.std.specs.Prelude.{bytes_eq}
use Rattle.std.proofs.lemmas.Bool.{and_parts, cases_lt, eqb-false, ltb-true, not-true}
use Rattle.std.proofs.lemmas.Slice.Eq.{bytes_eq-Decides}
use Rattle.hex.specs.Hex.{encode_with, encode_lower, lower_digits}
use Rattle.json_writer.specs.Plain.{ArePlain, IsPlain}
use Rattle.json_writer.specs.declared.places.TheConstants.{PAIRS}

pub no_digits : encode_lower [] ≡ []
unfolding encode_with
no_digits = refl

pub encode_with-append : (table xs ys : List ℕ) → encode_with table (xs ++ ys) ≡ encode_with table xs ++ encode_with table ys
unfolding encode_with
encode_with-append table [] ys = refl
encode_with-append table (x ∷ xs) ys =
    ap (λ (rest : List ℕ). slice_index table (x / 16) ∷ slice_index table (x % 16) ∷ rest) (encode_with-append table xs ys)

-- the two digits of an octet
abbrev pub digits_of : ℕ → List ℕ
digits_of octet = slice_index lower_digits (octet / 16) ∷ slice_index lower_digits (octet % 16) ∷ []

-- an octet's two places in the table
abbrev pub pair_at : ℕ → List ℕ
pair_at octet = get_or PAIRS (2 * octet) 0 ∷ get_or PAIRS (2 * octet + 1) 0 ∷ []

-- the test of the first n octets, which computes
abbrev are_pairs : ℕ → Bool
are_pairs zero = true
are_pairs (suc n) = bytes_eq (pair_at n) (digits_of n) && are_pairs n

each : (n k : ℕ) → are_pairs n ≡ true → k < n → bytes_eq (pair_at k) (digits_of k) ≡ true
each zero k h lt = absurd (omega arith)
each (suc n) k h lt =
    let parts = and_parts (bytes_eq (pair_at n) (digits_of n)) (are_pairs n) h in
    elim (cases_lt k n) [
      | inl less ↦ each n k parts.1 less
      | inr top ↦
          let e : k ≡ n = omega arith in
          rw e parts.0
    ]

-- the table has the digits of each octet
pub pair_is : (octet : ℕ) → octet < 256 → pair_at octet ≡ encode_lower (octet ∷ [])
unfolding encode_with
pair_is octet h = (bytes_eq-Decides (pair_at octet) (digits_of octet)).0 (each 256 octet refl h)

-- ---- they need no escape

abbrev pub is_plain : ℕ → Bool
is_plain octet = nat_lt 31 octet && (nat_lt octet 128 && (not (octet == 34) && not (octet == 92)))

pub tested : (octet : ℕ) → is_plain octet ≡ true → IsPlain octet
tested octet h =
    let first = and_parts _ _ h in
    let second = and_parts _ _ first.1 in
    let third = and_parts _ _ second.1 in
    let above = ltb-true 31 octet first.0 in
    record {
      visible = omega (arith, above);
      ascii = ltb-true octet 128 second.0;
      no_quote = eqb-false octet 34 (not-true _ third.0);
      no_backslash = eqb-false octet 92 (not-true _ third.1);
    }

abbrev is_plain_pair : ℕ → Bool
is_plain_pair octet = is_plain (get_or PAIRS (2 * octet) 0) && is_plain (get_or PAIRS (2 * octet + 1) 0)

abbrev are_plain_pairs : ℕ → Bool
are_plain_pairs zero = true
are_plain_pairs (suc n) = is_plain_pair n && are_plain_pairs n

each_plain : (n k : ℕ) → are_plain_pairs n ≡ true → k < n → is_plain_pair k ≡ true
each_plain zero k h lt = absurd (omega arith)
each_plain (suc n) k h lt =
    let parts = and_parts (is_plain_pair n) (are_plain_pairs n) h in
    elim (cases_lt k n) [
      | inl less ↦ each_plain n k parts.1 less
      | inr top ↦
          let e : k ≡ n = omega arith in
          rw e parts.0
    ]

pub pair_plain : (octet : ℕ) → octet < 256 → ArePlain (pair_at octet)
pair_plain octet h =
    let both = and_parts _ _ (each_plain 256 octet refl h) in
    (tested _ both.0, (tested _ both.1, tt))
