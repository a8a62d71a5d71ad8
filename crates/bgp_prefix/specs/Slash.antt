-- The slash in a prefix's text.
use Rattle.std.specs.Prelude.{◌≡◌, ◌≢◌, ℕ, List, ◌∷◌, ◌++◌, All}

-- no character is a slash
abbrev pub LacksSlash : List ℕ → Type 0
LacksSlash text = All (λ character. character ≢ 47) text

-- what stands before the first slash, and after it
abbrev pub IsAroundSlash : List ℕ → List ℕ → List ℕ → Type 0
IsAroundSlash text before after = (text ≡ before ++ (47 ∷ after)) × LacksSlash before
