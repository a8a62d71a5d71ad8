-- Texts of ASCII without a semicolon, which stands between two parts.
use Rattle.std.proofs.Common.{◌≡◌, ◌<◌, ◌^◌, ◌+◌, ◌/◌, ◌%◌, ◌==◌, ◌&&◌, ◌++◌, ℕ, zero, suc, Bool, true, not, nat_lt, List, [], ◌∷◌, codes, if◌then◌else◌, inl, inr, refl, arith, slice_index}
use Rattle.std.specs.Fmt.{decimal}
use Rattle.std.proofs.lemmas.Bool.{and_from, and_parts, cases_Bool, cond_both, lt-ltb, ne_eqb, not_from_false}
use Rattle.std.proofs.lemmas.Fmt.{decimal_by_steps}
use Rattle.hex.specs.Hex.{encode_lower, encode_with, lower_digits}
use Rattle.bgp_names.specs.Attributes.{attribute_name, attribute_names}
use Rattle.bgp_names.specs.Errors.{cease_names, code_name, code_names, fsm_error_names, has_subcode, header_error_names, open_error_names, refresh_error_names, short_error_name, subcode_name, subcode_names, update_error_names}
use Rattle.bgp_names.specs.Naming.{named}
use Rattle.bgp_names.proofs.Distinct.{lacks}
use Rattle.bgp_text.specs.Text.{hex_text}
use Rattle.bgp_why_parts.specs.Codes.{code_text}

abbrev pub clear_octet : ℕ → Bool
clear_octet octet = nat_lt octet 128 && not (octet == 59)

abbrev pub is_clear : List ℕ → Bool
is_clear [] = true
is_clear (c ∷ text) = clear_octet c && is_clear text

pub both_clear : (xs ys : List ℕ) → is_clear xs ≡ true → is_clear ys ≡ true → is_clear (xs ++ ys) ≡ true
both_clear [] ys first second = second
both_clear (c ∷ xs) ys first second =
    let parts = and_parts (clear_octet c) (is_clear xs) first in
    and_from (clear_octet c) (is_clear (xs ++ ys)) parts.0 (both_clear xs ys parts.1 second)

-- a clear text has no semicolon
pub clear_lacks : (xs : List ℕ) → is_clear xs ≡ true → lacks 59 xs ≡ true
clear_lacks [] is = refl
clear_lacks (c ∷ xs) is =
    let parts = and_parts (clear_octet c) (is_clear xs) is in
    and_from (not (c == 59)) (lacks 59 xs) (and_parts (nat_lt c 128) (not (c == 59)) parts.0).1 (clear_lacks xs parts.1)

-- ---- texts of ASCII

abbrev pub is_ascii : List ℕ → Bool
is_ascii [] = true
is_ascii (c ∷ text) = nat_lt c 128 && is_ascii text

pub both_ascii : (xs ys : List ℕ) → is_ascii xs ≡ true → is_ascii ys ≡ true → is_ascii (xs ++ ys) ≡ true
both_ascii [] ys first second = second
both_ascii (c ∷ xs) ys first second =
    let parts = and_parts (nat_lt c 128) (is_ascii xs) first in
    and_from (nat_lt c 128) (is_ascii (xs ++ ys)) parts.0 (both_ascii xs ys parts.1 second)

pub clear_ascii : (xs : List ℕ) → is_clear xs ≡ true → is_ascii xs ≡ true
clear_ascii [] is = refl
clear_ascii (c ∷ xs) is =
    let parts = and_parts (clear_octet c) (is_clear xs) is in
    and_from (nat_lt c 128) (is_ascii xs) (and_parts (nat_lt c 128) (not (c == 59)) parts.0).0 (clear_ascii xs parts.1)

-- ---- numbers

digit_clear : (n : ℕ) → n < 10 → is_clear ((48 + n) ∷ []) ≡ true
digit_clear n small =
    and_from (clear_octet (48 + n)) true
    (and_from (nat_lt (48 + n) 128) (not ((48 + n) == 59)) (lt-ltb (48 + n) 128 (omega (arith, small)))
    (not_from_false ((48 + n) == 59) (ne_eqb (48 + n) 59 (λ e. omega (arith, e, small))))) refl

pub decimal_clear : (n : ℕ) → n < 2 ^ 64 → is_clear (decimal n) ≡ true
decimal_clear n small =
    decimal_by_steps (λ (m : ℕ) (ds : List ℕ). is_clear ds ≡ true)
    (λ m below. digit_clear m below)
    (λ m ds above so_far. both_clear ds ((48 + m % 10) ∷ []) so_far (digit_clear (m % 10) (omega arith)))
    n small

-- ---- names

abbrev pub all_clear : List (ℕ × List ℕ) → Bool
all_clear [] = true
all_clear (row ∷ rows) = is_clear row.1 && all_clear rows

named_clear : (word : List ℕ) (rows : List (ℕ × List ℕ)) → is_clear word ≡ true → all_clear rows ≡ true → (n : ℕ) → n < 2 ^ 64 → is_clear (named word rows n) ≡ true
named_clear word [] clear all n small = both_clear word (decimal n) clear (decimal_clear n small)
named_clear word (row ∷ rows) clear all n small =
    let parts = and_parts (is_clear row.1) (all_clear rows) all in
    elim (cases_Bool (n == row.0)) [
      | inl is ↦ rw is parts.0
      | inr isnt ↦ rw isnt (named_clear word rows clear parts.1 n small)
    ]

pub attribute_clear : (n : ℕ) → n < 2 ^ 64 → is_clear (attribute_name n) ≡ true
attribute_clear = named_clear (codes "attribute ") attribute_names refl refl

subcodes_clear : (code : ℕ) → all_clear (subcode_names code) ≡ true
subcodes_clear code =
    let Clear : List (ℕ × List ℕ) → Type 0 = λ rows. all_clear rows ≡ true in
    let six = if code == 6 then cease_names else if code == 7 then refresh_error_names else [] in
    let three = if code == 3 then update_error_names else if code == 5 then fsm_error_names else six in
    cond_both (code == 1) header_error_names (if code == 2 then open_error_names else three) Clear (λ _. refl) (λ _.
    cond_both (code == 2) open_error_names three Clear (λ _. refl) (λ _.
    cond_both (code == 3) update_error_names (if code == 5 then fsm_error_names else six) Clear (λ _. refl) (λ _.
    cond_both (code == 5) fsm_error_names six Clear (λ _. refl) (λ _.
    cond_both (code == 6) cease_names (if code == 7 then refresh_error_names else []) Clear (λ _. refl) (λ _.
    cond_both (code == 7) refresh_error_names [] Clear (λ _. refl) (λ _. refl))))))

short_clear : (k l : ℕ) → k < 2 ^ 64 → l < 2 ^ 64 → is_clear (short_error_name k l) ≡ true
short_clear k l sk sl =
    cond_both (has_subcode k l) (subcode_name k l) (code_name k) (λ (t : List ℕ). is_clear t ≡ true)
    (λ _. named_clear (codes "subcode ") (subcode_names k) refl (subcodes_clear k) l sl) (λ _. named_clear (codes "code ") code_names refl refl k sk)

pub code_clear : (k l : ℕ) → k < 2 ^ 64 → l < 2 ^ 64 → is_clear (code_text k l) ≡ true
unfolding code_text
code_clear k l sk sl =
    let named : List ℕ = short_error_name k l ++ codes ")" in
    let behind : List ℕ = decimal l ++ (codes " (" ++ named) in
    both_clear (decimal k) (codes "/" ++ behind) (decimal_clear k sk)
    (both_clear (codes "/") behind refl
    (both_clear (decimal l) (codes " (" ++ named) (decimal_clear l sl)
    (both_clear (codes " (") named refl (both_clear (short_error_name k l) (codes ")") (short_clear k l sk sl) refl))))

-- ---- hexadecimal

-- what stands at a place of a clear text, or 0 behind it
at_clear : (xs : List ℕ) (i : ℕ) → is_clear xs ≡ true → clear_octet (slice_index xs i) ≡ true
at_clear [] i is = refl
at_clear (c ∷ xs) zero is = (and_parts (clear_octet c) (is_clear xs) is).0
at_clear (c ∷ xs) (suc i) is = at_clear xs i (and_parts (clear_octet c) (is_clear xs) is).1

encoded_clear : (xs : List ℕ) → is_clear (encode_lower xs) ≡ true
unfolding encode_with
encoded_clear [] = refl
encoded_clear (o ∷ xs) =
    and_from (clear_octet (slice_index lower_digits (o / 16))) (clear_octet (slice_index lower_digits (o % 16)) && is_clear (encode_lower xs))
    (at_clear lower_digits (o / 16) refl)
    (and_from (clear_octet (slice_index lower_digits (o % 16))) (is_clear (encode_lower xs)) (at_clear lower_digits (o % 16) refl) (encoded_clear xs))

pub hex_clear : (xs : List ℕ) → is_clear (hex_text xs) ≡ true
unfolding hex_text
hex_clear [] = refl
hex_clear (o ∷ xs) = encoded_clear (o ∷ xs)
