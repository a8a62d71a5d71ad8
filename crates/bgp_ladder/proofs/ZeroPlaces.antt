-- Where the first octet 0 stands, by a search, and how many there are.
use Rattle.std.proofs.Common.{◌≡◌, ◌+◌, ◌<◌, ◌==◌, ℕ, zero, suc, Bool, true, false, List, [], ◌∷◌, arith, drop, if◌then◌else◌, length, refl, take}
use Rattle.memchr.specs.Find.{Nowhere, Passes, is_byte}
use Rattle.bgp_ladder.specs.Batch.{first_zero, zeros}

zero_by : (x : ℕ) (xs : List ℕ) (k : ℕ) (here : Bool) → (x == 0) ≡ here → (¬ (x == 0) ≡ true) → first_zero xs ≡ k
    → (if here then 0 else first_zero xs + 1) ≡ suc k
zero_by x xs k true is other rest = absurd (other is)
zero_by x xs k false is other rest = rw rest (omega arith)

-- it stands at this place
pub zero_at : (octets : List ℕ) (k : ℕ) → k < length octets → Passes (is_byte 0) octets k → Nowhere (Passes (is_byte 0) octets) 0 k → first_zero octets ≡ k
zero_at [] k within is none = absurd (omega (arith, within))
zero_at (x ∷ xs) zero within is none = rw is refl
zero_at (x ∷ xs) (suc k) within is none =
    zero_by x xs k (x == 0) refl (none 0 (omega arith) (omega arith)) (zero_at xs k (omega (arith, within)) is (λ j low high. none (suc j) (omega arith) (omega (arith, high))))

none_by : (x : ℕ) (xs : List ℕ) (here : Bool) → (x == 0) ≡ here → (¬ (x == 0) ≡ true) → first_zero xs ≡ length xs
    → (if here then 0 else first_zero xs + 1) ≡ length (x ∷ xs)
none_by x xs true is other rest = absurd (other is)
none_by x xs false is other rest = rw rest (omega arith)

-- there is none
pub zero_nowhere : (octets : List ℕ) → Nowhere (Passes (is_byte 0) octets) 0 (length octets) → first_zero octets ≡ length octets
zero_nowhere [] none = refl
zero_nowhere (x ∷ xs) none =
    none_by x xs (x == 0) refl (none 0 (omega arith) (omega arith)) (zero_nowhere xs (λ j low high. none (suc j) (omega arith) (omega (arith, high))))

sum_by : (here : Bool) (n m k : ℕ) → n ≡ m + k → (if here then n + 1 else n) ≡ (if here then m + 1 else m) + k
sum_by true n m k is = omega (arith, is)
sum_by false n m k is = is

-- those of a front, and those behind it
pub zeros_parted : (octets : List ℕ) (k : ℕ) → zeros octets ≡ zeros (take k octets) + zeros (drop k octets)
zeros_parted [] zero = refl
zeros_parted [] (suc k) = refl
zeros_parted (x ∷ xs) zero = omega arith
zeros_parted (x ∷ xs) (suc k) = sum_by (x == 0) (zeros xs) (zeros (take k xs)) (zeros (drop k xs)) (zeros_parted xs k)
