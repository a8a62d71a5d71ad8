-- Texts with an octet between each two, written one by one.
use Rattle.std.proofs.Common.{◌≡◌, ◌∙◌, ◌++◌, ◌+◌, ◌<◌, ◌∷◌, ℕ, suc, List, [], sym, ap, length, get_or, drop, map, append-nil, append_assoc, add-one}
use Rattle.std.proofs.Math.Seq.{drop-cons}
use Rattle.std.specs.List.{flat_map, join_with_byte}

-- the first, and then each of the others behind the octet
pub joined : {A : Type 0} (between : ℕ) (text : A → List ℕ) (x : A) (xs : List A)
    → join_with_byte between (map text (x ∷ xs)) ≡ text x ++ flat_map (λ y. between ∷ text y) xs
joined between text x [] = sym (append-nil (text x))
joined between text x (y ∷ ys) = ap (λ (rest : List ℕ). text x ++ (between ∷ rest)) (joined between text y ys)

-- one more of a list was written, whose element at i is x
pub one_more : {A : Type 0} (text : A → List ℕ) (written whole : List ℕ) (xs : List A) (i : ℕ) (x : A) → i < length xs → x ≡ get_or xs i x
    → written ++ flat_map text (drop i xs) ≡ whole → (written ++ text x) ++ flat_map text (drop (i + 1) xs) ≡ whole
one_more text written whole xs i x within is so_far =
    let rest : drop i xs ≡ x ∷ drop (i + 1) xs =
    rw add-one (drop-cons xs i x within ∙ ap (λ y. y ∷ drop (suc i) xs) (sym is)) in
    append_assoc written (text x) (flat_map text (drop (i + 1) xs))
    ∙ ap (λ (o : List ℕ). written ++ o) (sym (ap (flat_map text) rest))
    ∙ so_far

-- nothing is left of a list that was gone through
pub none_left : {A : Type 0} (text : A → List ℕ) (written whole : List ℕ) (xs : List A) (i : ℕ) → drop i xs ≡ []
    → written ++ flat_map text (drop i xs) ≡ whole → written ≡ whole
none_left text written whole xs i none so_far =
    sym (append-nil written) ∙ sym (ap (λ rest. written ++ flat_map text rest) none) ∙ so_far
