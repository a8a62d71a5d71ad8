-- The pieces of octets, one by one.
use Rattle.std.proofs.Common.{◌≡◌, ◌<◌, ◌≤◌, ◌∷◌, ℕ, zero, suc, List, [], refl, ap, length, take, drop, nat_lt, arith, inl, inr}
use Rattle.std.proofs.lemmas.Bool.{cases_Bool, ltb-false, le-ltb, lt-ltb}
use Rattle.std.proofs.lemmas.List.{length-drop}
use Rattle.bgp_values.specs.Pieces.{pieces_in, pieces_of}

-- how many there may be plays no part, if it is enough
same_pieces : (most other size : ℕ) (octets : List ℕ) → 0 < size → length octets ≤ most → length octets ≤ other
    → pieces_in most size octets ≡ pieces_in other size octets
same_pieces zero zero size octets some enough enough' = refl
same_pieces zero (suc other) size octets some enough enough' = rw (lt-ltb (length octets) size (omega (arith, some, enough))) refl
same_pieces (suc most) zero size octets some enough enough' = rw (lt-ltb (length octets) size (omega (arith, some, enough'))) refl
same_pieces (suc most) (suc other) size octets some enough enough' = elim (cases_Bool (nat_lt (length octets) size)) [
  | inl few ↦ rw few refl
  | inr many ↦
      let whole : size ≤ length octets = ltb-false (length octets) size many in
      let left = length-drop size octets in
      rw many (ap (λ (rest : List (List ℕ)). take size octets ∷ rest)
      (same_pieces most other size (drop size octets) some (omega (arith, some, whole, left, enough)) (omega (arith, some, whole, left, enough'))))
]

pub no_piece : (size : ℕ) (octets : List ℕ) → length octets < size → pieces_of size octets ≡ []
no_piece size [] few = refl
no_piece size (o ∷ octets) few = rw (lt-ltb (length (o ∷ octets)) size few) refl

pub one_piece : (size : ℕ) (octets : List ℕ) → 0 < size → size ≤ length octets
    → pieces_of size octets ≡ take size octets ∷ pieces_of size (drop size octets)
one_piece size [] some whole = absurd (omega (arith, some, whole))
one_piece size (o ∷ octets) some whole =
    let left = length-drop size (o ∷ octets) in
    rw (le-ltb (length (o ∷ octets)) size whole) (ap (λ (rest : List (List ℕ)). take size (o ∷ octets) ∷ rest)
    (same_pieces (length octets) (length (drop size (o ∷ octets))) size (drop size (o ∷ octets)) some (omega (arith, some, whole, left)) (omega arith)))
