-- Pieces of a text, of which some aren't there, with a separator between them.
use Rattle.std.specs.Prelude.{◌++◌, ℕ, List, [], ◌∷◌, Option, None, Some, codes}

-- those that there are: this stands before the first, and the separator before each other
abbrev pub separated : List ℕ → List ℕ → List (Option (List ℕ)) → List ℕ
separated separator before [] = []
separated separator before (None ∷ pieces) = separated separator before pieces
separated separator before (Some piece ∷ pieces) =
    before ++ (piece ++ separated separator separator pieces)

-- what stands before the next
abbrev pub next_separator : List ℕ → List ℕ → Option (List ℕ) → List ℕ
next_separator separator before None = before
next_separator separator before (Some piece) = separator

-- a semicolon before each but the first
abbrev pub listed : List (Option (List ℕ)) → List ℕ
listed pieces = separated (codes "; ") [] pieces
