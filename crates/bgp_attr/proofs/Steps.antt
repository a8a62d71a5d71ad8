-- Reading a field one attribute at a time.
use Rattle.std.proofs.Common.{◌≡◌, ℕ, zero, suc, ◌<◌, ◌≤◌, List, [], ◌∷◌, length, drop, slice_index, refl, ap, ◌∙◌, arith, inl, inr}
use Rattle.std.proofs.lemmas.Bool.{cases_Bool, cases_lt, lt-ltb, le-ltb}
use Rattle.std.proofs.lemmas.List.{length-drop}
use Rattle.bgp_attr.specs.Field.{Attribute, is_extended, header_len}
use Rattle.bgp_attr.specs.Split.{attribute_len, first_attribute, attributes_in, rest_in, attributes_of, rest_of}

-- a header has flags, type and length
pub header_some : (octets : List ℕ) → 3 ≤ header_len octets
unfolding header_len
header_some octets = elim (cases_Bool (is_extended (slice_index octets 0))) [
  | inl e ↦ rw e (omega arith)
  | inr e ↦ rw e (omega arith)
]

-- what is left of fuel for the octets after the first attribute
less : (octets : List ℕ) (n : ℕ) → attribute_len octets ≤ length octets → length octets ≤ suc n → length (drop (attribute_len octets) octets) ≤ n
less octets n whole h = omega (arith, header_some octets, length-drop (attribute_len octets) octets)

-- more fuel than octets changes nothing
same_attributes : (n m : ℕ) (octets : List ℕ) → length octets ≤ n → length octets ≤ m → attributes_in n octets ≡ attributes_in m octets
same_attributes zero zero octets h k = refl
same_attributes zero (suc m) octets h k =
    let short = lt-ltb (length octets) (attribute_len octets) (omega (arith, header_some octets)) in
    rw short refl
same_attributes (suc n) zero octets h k =
    let short = lt-ltb (length octets) (attribute_len octets) (omega (arith, header_some octets)) in
    rw short refl
same_attributes (suc n) (suc m) octets h k = elim (cases_lt (length octets) (attribute_len octets)) [
  | inl lt ↦ rw (lt-ltb (length octets) (attribute_len octets) lt) refl
  | inr le ↦
      let rest = drop (attribute_len octets) octets in
      let same = same_attributes n m rest (less octets n le h) (less octets m le k) in
      rw (le-ltb (length octets) (attribute_len octets) le) (ap (λ (t : List Attribute). first_attribute octets ∷ t) same)
]

same_rest : (n m : ℕ) (octets : List ℕ) → length octets ≤ n → length octets ≤ m → rest_in n octets ≡ rest_in m octets
same_rest zero zero octets h k = refl
same_rest zero (suc m) octets h k =
    let short = lt-ltb (length octets) (attribute_len octets) (omega (arith, header_some octets)) in
    rw short refl
same_rest (suc n) zero octets h k =
    let short = lt-ltb (length octets) (attribute_len octets) (omega (arith, header_some octets)) in
    rw short refl
same_rest (suc n) (suc m) octets h k = elim (cases_lt (length octets) (attribute_len octets)) [
  | inl lt ↦ rw (lt-ltb (length octets) (attribute_len octets) lt) refl
  | inr le ↦
      let rest = drop (attribute_len octets) octets in
      let same = same_rest n m rest (less octets n le h) (less octets m le k) in
      rw (le-ltb (length octets) (attribute_len octets) le) same
]

-- a whole attribute stands at the front
pub attributes_step : (octets : List ℕ) → attribute_len octets ≤ length octets → attributes_of octets ≡ first_attribute octets ∷ attributes_of (drop (attribute_len octets) octets)
unfolding attributes_of
attributes_step octets whole =
    let rest = drop (attribute_len octets) octets in
    let one : attributes_in (suc (length octets)) octets ≡ first_attribute octets ∷ attributes_in (length octets) rest = rw (le-ltb (length octets) (attribute_len octets) whole) refl in
    let shorter : length rest ≤ length octets = omega (arith, length-drop (attribute_len octets) octets) in
    same_attributes (length octets) (suc (length octets)) octets (omega arith) (omega arith)
    ∙ one
    ∙ ap (λ (t : List Attribute). first_attribute octets ∷ t) (same_attributes (length octets) (length rest) rest shorter (omega arith))

pub rest_step : (octets : List ℕ) → attribute_len octets ≤ length octets → rest_of octets ≡ rest_of (drop (attribute_len octets) octets)
unfolding rest_of
rest_step octets whole =
    let rest = drop (attribute_len octets) octets in
    let one : rest_in (suc (length octets)) octets ≡ rest_in (length octets) rest = rw (le-ltb (length octets) (attribute_len octets) whole) refl in
    let shorter : length rest ≤ length octets = omega (arith, length-drop (attribute_len octets) octets) in
    same_rest (length octets) (suc (length octets)) octets (omega arith) (omega arith)
    ∙ one
    ∙ same_rest (length octets) (length rest) rest shorter (omega arith)

-- none does
pub attributes_stop : (octets : List ℕ) → length octets < attribute_len octets → attributes_of octets ≡ []
unfolding attributes_of
attributes_stop octets short =
    let one : attributes_in (suc (length octets)) octets ≡ [] = rw (lt-ltb (length octets) (attribute_len octets) short) refl in
    same_attributes (length octets) (suc (length octets)) octets (omega arith) (omega arith) ∙ one

pub rest_stop : (octets : List ℕ) → length octets < attribute_len octets → rest_of octets ≡ octets
unfolding rest_of
rest_stop octets short =
    let one : rest_in (suc (length octets)) octets ≡ octets = rw (lt-ltb (length octets) (attribute_len octets) short) refl in
    same_rest (length octets) (suc (length octets)) octets (omega arith) (omega arith) ∙ one

-- what a call of `next` does
pub ruleset steps = (attributes_step, attributes_stop, rest_step)
