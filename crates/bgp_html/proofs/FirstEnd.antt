-- Where the first line feed stands, by a search.
use Rattle.std.proofs.Common.{◌≡◌, ◌+◌, ◌<◌, ◌==◌, ℕ, zero, suc, Bool, true, false, List, [], ◌∷◌, arith, if◌then◌else◌, length, refl}
use Rattle.memchr.specs.Find.{Nowhere, Passes, is_byte}
use Rattle.bgp_html.specs.Taking.{first_end}

ends_by : (x : ℕ) (xs : List ℕ) (k : ℕ) (here : Bool) → (x == 10) ≡ here → (¬ (x == 10) ≡ true) → first_end xs ≡ k
    → (if here then 0 else first_end xs + 1) ≡ suc k
ends_by x xs k true is other rest = absurd (other is)
ends_by x xs k false is other rest = rw rest (omega arith)

-- at this place
pub ends_at : (octets : List ℕ) (k : ℕ) → k < length octets → Passes (is_byte 10) octets k → Nowhere (Passes (is_byte 10) octets) 0 k → first_end octets ≡ k
ends_at [] k within is none = absurd (omega (arith, within))
ends_at (x ∷ xs) zero within is none = rw is refl
ends_at (x ∷ xs) (suc k) within is none =
    ends_by x xs k (x == 10) refl (none 0 (omega arith) (omega arith)) (ends_at xs k (omega (arith, within)) is (λ j low high. none (suc j) (omega arith) (omega (arith, high))))

none_by : (x : ℕ) (xs : List ℕ) (here : Bool) → (x == 10) ≡ here → (¬ (x == 10) ≡ true) → first_end xs ≡ length xs
    → (if here then 0 else first_end xs + 1) ≡ length (x ∷ xs)
none_by x xs true is other rest = absurd (other is)
none_by x xs false is other rest = rw rest (omega arith)

-- or nowhere
pub ends_nowhere : (octets : List ℕ) → Nowhere (Passes (is_byte 10) octets) 0 (length octets) → first_end octets ≡ length octets
ends_nowhere [] none = refl
ends_nowhere (x ∷ xs) none =
    none_by x xs (x == 10) refl (none 0 (omega arith) (omega arith)) (ends_nowhere xs (λ j low high. none (suc j) (omega arith) (omega (arith, high))))
