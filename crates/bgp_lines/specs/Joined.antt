-- The texts of values with another text between each two.
use Rattle.std.specs.Prelude.{◌++◌, ℕ, List, [], ◌∷◌}
use Rattle.std.specs.List.{flat_map}

-- each behind this text
abbrev pub each_behind : {X : Type 0} → List ℕ → (X → List ℕ) → List X → List ℕ
each_behind before text values = flat_map (λ value. before ++ text value) values

abbrev pub joined : {X : Type 0} → List ℕ → (X → List ℕ) → List X → List ℕ
joined between text [] = []
joined between text (value ∷ values) = text value ++ each_behind between text values
