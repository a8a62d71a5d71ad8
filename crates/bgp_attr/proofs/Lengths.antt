-- How many octets numbers take that take equally many.
use Rattle.std.proofs.Common.{◌≡◌, ℕ, ◌*◌, not, ◌==◌, List, [], ◌∷◌, length, option_map, refl, arith, length-append, inl, inr}
use Rattle.std.specs.Bool.{then_some}
use Rattle.std.specs.List.{flat_map}
use Rattle.std.proofs.lemmas.Bool.{cases_Bool}
use Rattle.byteorder.specs.Endian.{big_bytes}
use Rattle.byteorder.specs.Numbers.{length-bytes_high_first}
use Rattle.bgp_attr.specs.Values.{items_octets}

pub flat_len : {X : Type 0} (f : X → List ℕ) (k : ℕ) → ((x : X) → length (f x) ≡ k) → (xs : List X) → length (flat_map f xs) ≡ k * length xs
flat_len f k each [] = omega arith
flat_len f k each (x ∷ xs) = omega (arith, length-append (f x) (flat_map f xs), each x, flat_len f k each xs)

-- a list of numbers, which is none where it is empty
pub items_len : (size : ℕ) (items : List ℕ) → then_some (not (length items == 0)) (size * length items) ≡ option_map length (items_octets size items)
items_len size items = elim (cases_Bool (length items == 0)) [
  | inl e ↦ rw e refl
  | inr e ↦ rw (e, flat_len (big_bytes size) size (length-bytes_high_first size) items) refl
]
