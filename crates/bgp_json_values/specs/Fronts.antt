-- Octets without those that they begin with.
use Rattle.std.specs.Prelude.{◌≡◌, ◌≢◌, ◌++◌, ℕ, List, Option, MatchOption}
use Rattle.std.specs.Borrow.{Bor}

-- what is left after the front, or nothing if octets don't begin with it
abbrev pub IsAfter : List ℕ → List ℕ → Option (Bor (List ℕ)) → Type 0
IsAfter front octets after =
    MatchOption after ((rest : List ℕ) → octets ≢ front ++ rest) (λ rest. octets ≡ front ++ rest.now)
