-- Texts of the values of ends, one by one.
use Rattle.std.proofs.Common.{◌≡◌, ◌++◌, List, ℕ, [], ◌∷◌, ap, refl, map}
use Rattle.std.specs.List.{flat_map}

-- texts of values that were told of elements
pub of_values : {X Y : Type 0} (value : X → Y) (text : Y → List ℕ) (xs : List X)
    → flat_map (λ x. text (value x)) xs ≡ flat_map text (map value xs)
of_values value text [] = refl
of_values value text (x ∷ xs) = ap (λ (rest : List ℕ). text (value x) ++ rest) (of_values value text xs)
