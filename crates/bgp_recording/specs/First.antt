-- The first of a list.
use Rattle.std.specs.Prelude.{◌≡◌, List, [], ◌∷◌}

-- the list begins with this one
abbrev pub IsFirst : {X : Type 0} → List X → X → Type 0
IsFirst [] x = ⊥
IsFirst (first ∷ later) x = first ≡ x
