-- Prefixes of one family are ordered as the sixteen octets that they are kept in, and so by the number of the first eight, and then by that of the others.
use Rattle.std.proofs.Common.{◌≡◌, ℕ, zero, suc, ◌+◌, ◌-◌, ◌*◌, ◌^◌, ◌<◌, ◌≤◌, Bool, false, List, ◌++◌, length, take, drop, replicate, get_or, refl, sym, ap, ap₂, subst, ◌∙◌, arith, inl, inr}
use Rattle.std.proofs.Math.Nat.{mul_assoc}
use Rattle.std.proofs.lemmas.Bool.{cases_lt, cases_eq}
use Rattle.std.proofs.lemmas.List.{get_or-drop, length-replicate, length-take}
use Rattle.std.proofs.lemmas.Nat.{pow-add}
use Rattle.std.specs.Cmp.{nat_cmp_is}
use Rattle.std.specs.Ordering.{nat_cmp, ordering_then}
use Rattle.std.specs.declared.cmp.Ordering.{Ordering}
use Rattle.std.specs.declared.cmp.Ordering.TheVariants.{Less, Equal, Greater}
use Rattle.byteorder.specs.Endian.{big_from, big_number}
use Rattle.byteorder.specs.Numbers.{big_from-lt}
use Rattle.bgp_prefix.specs.Bits.{number_of_bits, with_zeros, octets_of}
use Rattle.bgp_prefix.specs.Address.{address_number, bit_count, family_number}
use Rattle.bgp_prefix.specs.Prefix.{PrefixBits, IsPrefix, lowest_address, prefix_length}
use Rattle.bgp_prefix.specs.PrefixFields.{front_number, back_number}
use Rattle.bgp_prefix.specs.PrefixOrder.{prefix_cmp, prefix_number, family_rank}
use Rattle.bgp_prefix.specs.PrefixLaws.{bit_count-le}
use Rattle.bgp_prefix.specs.declared.family.Family.{Family}
use Rattle.bgp_prefix.specs.declared.family.Family.TheVariants.{V4, V6}
use Rattle.bgp_prefix.proofs.BitsAndNumbers.{big_number-octets_of, length-with_zeros, number_of_bits-append, number_of_bits-lt, number_of_bits-zeros}

-- ---- the order of numbers

pub same_order : (a b c d : ℕ) → (a < b → c < d) → (a ≡ b → c ≡ d) → (b < a → d < c) → nat_cmp a b ≡ nat_cmp c d
same_order a b c d less equal greater = elim (cases_lt a b) [
  | inl is ↦ sym (nat_cmp_is a b Less is) ∙ nat_cmp_is c d Less (less is)
  | inr not_less ↦ elim (cases_eq a b) [
    | inl is ↦ sym (nat_cmp_is a b Equal is) ∙ nat_cmp_is c d Equal (equal is)
    | inr other ↦ let is : b < a = omega arith in sym (nat_cmp_is a b Greater is) ∙ nat_cmp_is c d Greater (greater is)
  ]
]

halves : (a b c d : ℕ) → b < 2 ^ 64 → d < 2 ^ 64 → nat_cmp (a * 2 ^ 64 + b) (c * 2 ^ 64 + d) ≡ ordering_then (nat_cmp a c) (nat_cmp b d)
halves a b c d fits also = elim (cases_lt a c) [
  | inl is ↦ sym (nat_cmp_is (a * 2 ^ 64 + b) (c * 2 ^ 64 + d) Less (omega arith)) ∙ ap (λ o. ordering_then o (nat_cmp b d)) (nat_cmp_is a c Less is)
  | inr not_less ↦ elim (cases_eq a c) [
    | inl is ↦ same_order (a * 2 ^ 64 + b) (c * 2 ^ 64 + d) b d (λ h. omega arith) (λ h. omega arith) (λ h. omega arith) ∙ ap (λ o. ordering_then o (nat_cmp b d)) (nat_cmp_is a c Equal is)
    | inr other ↦ let is : c < a = omega arith in sym (nat_cmp_is (a * 2 ^ 64 + b) (c * 2 ^ 64 + d) Greater (omega arith)) ∙ ap (λ o. ordering_then o (nat_cmp b d)) (nat_cmp_is a c Greater is)
  ]
]

-- ---- sixteen octets as two numbers

big_from-drop : (j i n : ℕ) (octets : List ℕ) → big_from (j + i) n octets ≡ big_from i n (drop j octets)
big_from-drop j i zero octets = refl
big_from-drop j i (suc n) octets =
    let more : suc (j + i) ≡ j + suc i = omega arith in
    let later = big_from-drop j (suc i) n octets in
    rw (get_or-drop j octets i 0, more, later) refl

split : (octets : List ℕ) → big_number 16 octets ≡ big_number 8 octets * 2 ^ 64 + big_number 8 (drop 8 octets)
split octets =
    let both : big_from 0 16 octets ≡ big_from 0 8 octets * 2 ^ 64 + big_from 8 8 octets = omega arith in
    both ∙ ap (λ (n : ℕ). big_from 0 8 octets * 2 ^ 64 + n) (big_from-drop 8 0 8 octets)

small : (count : ℕ) (bits : List Bool) (k : ℕ) → get_or (octets_of count bits) k 0 < 256
unfolding octets_of
small zero bits k = omega arith
small (suc count) bits zero =
    let eight = length-with_zeros 8 (take 8 bits) (omega (arith, length-take 8 bits)) in
    let below = number_of_bits-lt (with_zeros 8 (take 8 bits)) in
    rw eight at below
small (suc count) bits (suc k) = small count (drop 8 bits) k

back_fits : (p : PrefixBits) → back_number p < 2 ^ 64
back_fits p = big_from-lt 0 8 (drop 8 (octets_of 16 p.bits)) (λ k. rw (get_or-drop 8 (octets_of 16 p.bits) k 0) (small 16 p.bits (8 + k)))

-- ---- the number of an address

padded : (bits : List Bool) (count : ℕ) → number_of_bits (bits ++ replicate count false) ≡ number_of_bits bits * 2 ^ count
padded bits count = rw (number_of_bits-append, number_of_bits-zeros, length-replicate) (omega arith)

widened : (bits : List Bool) → length bits ≤ 32 → number_of_bits (with_zeros 128 bits) ≡ number_of_bits (with_zeros 32 bits) * 2 ^ 96
unfolding with_zeros
widened bits fits =
    let gap : 128 - length bits ≡ 32 - length bits + 96 = omega arith in
    padded bits (128 - length bits)
    ∙ ap (λ k. number_of_bits bits * 2 ^ k) gap
    ∙ ap (λ power. number_of_bits bits * power) (pow-add 2 (32 - length bits) 96)
    ∙ sym (mul_assoc (number_of_bits bits) (2 ^ (32 - length bits)) (2 ^ 96))
    ∙ ap (λ n. n * 2 ^ 96) (sym (padded bits (32 - length bits)))

both_numbers : (p : PrefixBits) → IsPrefix p → front_number p * 2 ^ 64 + back_number p ≡ number_of_bits (with_zeros 128 p.bits)
both_numbers p fits =
    sym (split (octets_of 16 p.bits)) ∙ big_number-octets_of 16 16 p.bits (omega arith) (omega (arith, fits, bit_count-le p.family))

by_wide : (family : Family) (bits also : List Bool) → IsPrefix (record { family = family; bits = bits }) → IsPrefix (record { family = family; bits = also })
    → nat_cmp (address_number (lowest_address family bits)) (address_number (lowest_address family also)) ≡ nat_cmp (number_of_bits (with_zeros 128 bits)) (number_of_bits (with_zeros 128 also))
unfolding lowest_address
by_wide V4 bits also fits fits' =
    let m = number_of_bits (with_zeros 32 bits) in
    let n = number_of_bits (with_zeros 32 also) in
    same_order m n (m * 2 ^ 96) (n * 2 ^ 96) (λ h. omega arith) (λ h. omega arith) (λ h. omega arith)
    ∙ ap₂ nat_cmp (sym (widened bits fits)) (sym (widened also fits'))
by_wide V6 bits also fits fits' = refl

pub by_halves : (family : Family) (bits also : List Bool) → IsPrefix (record { family = family; bits = bits }) → IsPrefix (record { family = family; bits = also })
    → nat_cmp (address_number (lowest_address family bits)) (address_number (lowest_address family also))
    ≡ ordering_then (nat_cmp (front_number (record { family = family; bits = bits })) (front_number (record { family = family; bits = also })))
    (nat_cmp (back_number (record { family = family; bits = bits })) (back_number (record { family = family; bits = also })))
by_halves family bits also fits fits' =
    let p : PrefixBits = record { family = family; bits = bits } in
    let q : PrefixBits = record { family = family; bits = also } in
    by_wide family bits also fits fits' ∙ ap₂ nat_cmp (sym (both_numbers p fits)) (sym (both_numbers q fits'))
    ∙ halves (front_number p) (back_number p) (front_number q) (back_number q) (back_fits p) (back_fits q)

-- ---- the order of prefixes

numbers : (p q : PrefixBits) → p.family ≡ q.family → IsPrefix p → IsPrefix q
    → nat_cmp (prefix_number p) (prefix_number q) ≡ ordering_then (nat_cmp (front_number p) (front_number q)) (nat_cmp (back_number p) (back_number q))
numbers p q same fits fits' =
    let moved : IsPrefix (record { family = p.family; bits = q.bits }) = subst (λ (f : Family). length q.bits ≤ bit_count f) (sym same) fits' in
    subst (λ (f : Family). nat_cmp (prefix_number p) (prefix_number (record { family = f; bits = q.bits })) ≡ ordering_then (nat_cmp (front_number p) (front_number q)) (nat_cmp (back_number p) (back_number q)))
    same (by_halves p.family p.bits q.bits fits moved)

then_assoc : (a b c : Ordering) → ordering_then a (ordering_then b c) ≡ ordering_then (ordering_then a b) c
then_assoc Less b c = refl
then_assoc Equal b c = refl
then_assoc Greater b c = refl

in_family : (p q : PrefixBits) → p.family ≡ q.family → IsPrefix p → IsPrefix q
    → prefix_cmp p q ≡ ordering_then (nat_cmp (front_number p) (front_number q)) (ordering_then (nat_cmp (back_number p) (back_number q)) (nat_cmp (prefix_length p) (prefix_length q)))
in_family p q same fits fits' =
    ap (λ o. ordering_then o (ordering_then (nat_cmp (prefix_number p) (prefix_number q)) (nat_cmp (prefix_length p) (prefix_length q)))) (sym (nat_cmp_is (family_rank p) (family_rank q) Equal (ap family_number same)))
    ∙ ap (λ o. ordering_then o (nat_cmp (prefix_length p) (prefix_length q))) (numbers p q same fits fits')
    ∙ sym (then_assoc (nat_cmp (front_number p) (front_number q)) _ _)

told : (a b : ℕ) (o : Ordering) → (a ≡ b → ⊥) → nat_cmp a b ≡ ordering_then (nat_cmp a b) o
told a b o other = elim (cases_lt a b) [
  | inl is ↦ rw (sym (nat_cmp_is a b Less is)) refl
  | inr not_less ↦ let is : b < a = omega (arith, other) in rw (sym (nat_cmp_is a b Greater is)) refl
]

-- where the first numbers differ, they tell
pub by_front : (p q : PrefixBits) (a b : ℕ) (o : Ordering) → p.family ≡ q.family → IsPrefix p → IsPrefix q → a ≡ front_number p → b ≡ front_number q
    → (a ≡ b → ⊥) → o ≡ nat_cmp a b → o ≡ prefix_cmp p q
by_front p q a b o same fits fits' first also other is =
    is ∙ told a b (ordering_then (nat_cmp (back_number p) (back_number q)) (nat_cmp (prefix_length p) (prefix_length q))) other
    ∙ ap₂ (λ x y. ordering_then (nat_cmp x y) (ordering_then (nat_cmp (back_number p) (back_number q)) (nat_cmp (prefix_length p) (prefix_length q)))) first also
    ∙ sym (in_family p q same fits fits')

-- else the others do, and then the lengths
pub by_rest : (p q : PrefixBits) (a b : ℕ) (o : Ordering) → p.family ≡ q.family → IsPrefix p → IsPrefix q → a ≡ front_number p → b ≡ front_number q
    → a ≡ b → o ≡ ordering_then (nat_cmp (back_number p) (back_number q)) (nat_cmp (prefix_length p) (prefix_length q)) → o ≡ prefix_cmp p q
by_rest p q a b o same fits fits' first also equal is =
    is
    ∙ ap (λ x. ordering_then x (ordering_then (nat_cmp (back_number p) (back_number q)) (nat_cmp (prefix_length p) (prefix_length q)))) (nat_cmp_is (front_number p) (front_number q) Equal (sym first ∙ equal ∙ also))
    ∙ sym (in_family p q same fits fits')

pub ruleset by_numbers = (by_front, by_rest)
