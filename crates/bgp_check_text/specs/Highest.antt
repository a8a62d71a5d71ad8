-- The highest state that records tell.
use Rattle.std.specs.Prelude.{ℕ, List, [], ◌∷◌, max}
use Rattle.bgp_prefix.specs.Shown.{ShownRecord, Changed}

-- the number of the state to which a record changes: 0 where it is no change
abbrev pub new_state : ShownRecord → ℕ
new_state (Changed t old new) = new
new_state shown = 0

-- that of the highest one that records tell
abbrev pub highest_state : List ShownRecord → ℕ
highest_state [] = 0
highest_state (shown ∷ records) = max (new_state shown) (highest_state records)
