-- How many groups of an IPv6 address are zero.
use Rattle.std.specs.Prelude.{◌+◌, ◌==◌, ℕ, List, [], ◌∷◌, if◌then◌else◌}

abbrev pub zero_groups : List ℕ → ℕ
zero_groups [] = 0
zero_groups (group ∷ groups) = (if group == 0 then 1 else 0) + zero_groups groups
