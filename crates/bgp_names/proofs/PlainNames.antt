-- Names are plain: they have no octet that would have to be spelled otherwise.
use Rattle.std.proofs.Common.{◌≡◌, ◌<◌, ◌^◌, ◌+◌, ◌%◌, ◌==◌, ◌&&◌, ◌++◌, ℕ, Bool, true, not, nat_le, List, [], ◌∷◌, Option, None, Some, codes, if◌then◌else◌, inl, inr, refl, arith}
use Rattle.std.specs.Fmt.{decimal}
use Rattle.std.proofs.lemmas.Bool.{and_from, and_parts, cases_Bool, cond_both, le-leb, ne_eqb, not_from_false}
use Rattle.std.proofs.lemmas.Fmt.{decimal_by_steps}
use Rattle.bgp_names.specs.Naming.{is_plain, is_plain_octet, name_in, name_of_two_in, name_or, named, NamesArePlain, NamesOfTwoArePlain}
use Rattle.bgp_names.specs.Errors.{code_name, code_names, subcode_name, subcode_names, has_subcode, error_name, short_error_name, header_error_names, open_error_names, update_error_names, fsm_error_names, cease_names, refresh_error_names}
use Rattle.bgp_names.specs.Families.{family_name, family_names, family_numbers}
use Rattle.bgp_names.specs.Messages.{after_blank, type_names, type_text}

pub both_plain : (xs ys : List ℕ) → is_plain xs ≡ true → is_plain ys ≡ true → is_plain (xs ++ ys) ≡ true
both_plain [] ys first second = second
both_plain (c ∷ xs) ys first second =
    let parts = and_parts (is_plain_octet c) (is_plain xs) first in
    and_from (is_plain_octet c) (is_plain (xs ++ ys)) parts.0 (both_plain xs ys parts.1 second)

digit_plain : (n : ℕ) → n < 10 → is_plain ((48 + n) ∷ []) ≡ true
digit_plain n small =
    let range = and_from (nat_le 32 (48 + n)) (nat_le (48 + n) 126) (le-leb 32 (48 + n) (omega arith)) (le-leb (48 + n) 126 (omega arith)) in
    let quote = not_from_false ((48 + n) == 34) (ne_eqb (48 + n) 34 (λ e. omega (arith, e))) in
    let slash = not_from_false ((48 + n) == 92) (ne_eqb (48 + n) 92 (λ e. omega (arith, e))) in
    and_from (is_plain_octet (48 + n)) true
    (and_from (nat_le 32 (48 + n) && nat_le (48 + n) 126) (not ((48 + n) == 34) && not ((48 + n) == 92)) range
    (and_from (not ((48 + n) == 34)) (not ((48 + n) == 92)) quote slash)) refl

pub decimal_plain : (n : ℕ) → n < 2 ^ 64 → is_plain (decimal n) ≡ true
decimal_plain n small =
    decimal_by_steps (λ (m : ℕ) (ds : List ℕ). is_plain ds ≡ true)
    (λ m below. digit_plain m below)
    (λ m ds above so_far. both_plain ds ((48 + m % 10) ∷ []) so_far (digit_plain (m % 10) (omega arith)))
    n small

-- the names of a table are plain
abbrev pub all_plain : List (ℕ × List ℕ) → Bool
all_plain [] = true
all_plain (row ∷ rows) = is_plain row.1 && all_plain rows

pub named_plain : (word : List ℕ) (rows : List (ℕ × List ℕ)) → is_plain word ≡ true → all_plain rows ≡ true → NamesArePlain (named word rows)
named_plain word [] plain all n small = both_plain word (decimal n) plain (decimal_plain n small)
named_plain word (row ∷ rows) plain all n small =
    let parts = and_parts (is_plain row.1) (all_plain rows) all in
    elim (cases_Bool (n == row.0)) [
      | inl is ↦ rw is parts.0
      | inr isnt ↦ rw isnt (named_plain word rows plain parts.1 n small)
    ]

-- ---- error codes and subcodes

subcodes_plain : (code : ℕ) → all_plain (subcode_names code) ≡ true
subcodes_plain code =
    let Plain : List (ℕ × List ℕ) → Type 0 = λ rows. all_plain rows ≡ true in
    let six = if code == 6 then cease_names else if code == 7 then refresh_error_names else [] in
    let three = if code == 3 then update_error_names else if code == 5 then fsm_error_names else six in
    cond_both (code == 1) header_error_names (if code == 2 then open_error_names else three) Plain (λ _. refl) (λ _.
    cond_both (code == 2) open_error_names three Plain (λ _. refl) (λ _.
    cond_both (code == 3) update_error_names (if code == 5 then fsm_error_names else six) Plain (λ _. refl) (λ _.
    cond_both (code == 5) fsm_error_names six Plain (λ _. refl) (λ _.
    cond_both (code == 6) cease_names (if code == 7 then refresh_error_names else []) Plain (λ _. refl) (λ _.
    cond_both (code == 7) refresh_error_names [] Plain (λ _. refl) (λ _. refl))))))

code_plain : NamesArePlain code_name
code_plain = named_plain (codes "code ") code_names refl refl

pub subcode_plain : (code : ℕ) → NamesArePlain (subcode_name code)
subcode_plain code = named_plain (codes "subcode ") (subcode_names code) refl (subcodes_plain code)

pub error_plain : NamesOfTwoArePlain error_name
error_plain code subcode small small' =
    let behind = codes ", " ++ subcode_name code subcode in
    both_plain (code_name code) (if has_subcode code subcode then behind else []) (code_plain code small)
    (cond_both (has_subcode code subcode) behind [] (λ (t : List ℕ). is_plain t ≡ true)
    (λ _. both_plain (codes ", ") (subcode_name code subcode) refl (subcode_plain code subcode small')) (λ _. refl))

pub short_plain : NamesOfTwoArePlain short_error_name
short_plain code subcode small small' =
    cond_both (has_subcode code subcode) (subcode_name code subcode) (code_name code) (λ (t : List ℕ). is_plain t ≡ true)
    (λ _. subcode_plain code subcode small') (λ _. code_plain code small)

-- ---- families

abbrev pub all_of_two_plain : List (ℕ × ℕ × List ℕ) → Bool
all_of_two_plain [] = true
all_of_two_plain (row ∷ rows) = is_plain row.2 && all_of_two_plain rows

family_by_plain : (rows : List (ℕ × ℕ × List ℕ)) → all_of_two_plain rows ≡ true
    → NamesOfTwoArePlain (λ afi safi. name_or (family_numbers afi safi) (name_of_two_in rows afi safi))
family_by_plain [] all afi safi small small' =
    both_plain (codes "afi ") (decimal afi ++ (codes " safi " ++ decimal safi)) refl
    (both_plain (decimal afi) (codes " safi " ++ decimal safi) (decimal_plain afi small)
    (both_plain (codes " safi ") (decimal safi) refl (decimal_plain safi small')))
family_by_plain (row ∷ rows) all afi safi small small' =
    let parts = and_parts (is_plain row.2) (all_of_two_plain rows) all in
    elim (cases_Bool ((afi == row.0) && (safi == row.1))) [
      | inl is ↦ rw is parts.0
      | inr isnt ↦ rw isnt (family_by_plain rows parts.1 afi safi small small')
    ]

pub family_plain : NamesOfTwoArePlain family_name
family_plain = family_by_plain family_names refl

-- ---- message types

blank_plain : (name : Option (List ℕ)) → is_plain (name_or [] name) ≡ true → is_plain (after_blank name) ≡ true
blank_plain None plain = refl
blank_plain (Some name) plain = both_plain (codes " ") name refl plain

-- what a table has is plain
found_plain : (rows : List (ℕ × List ℕ)) (n : ℕ) → all_plain rows ≡ true → is_plain (name_or [] (name_in rows n)) ≡ true
found_plain [] n all = refl
found_plain (row ∷ rows) n all =
    let parts = and_parts (is_plain row.1) (all_plain rows) all in
    elim (cases_Bool (n == row.0)) [
      | inl is ↦ rw is parts.0
      | inr isnt ↦ rw isnt (found_plain rows n parts.1)
    ]

pub type_plain : NamesArePlain type_text
type_plain n small =
    both_plain (decimal n) (after_blank (name_in type_names n)) (decimal_plain n small)
    (blank_plain (name_in type_names n) (found_plain type_names n refl))
