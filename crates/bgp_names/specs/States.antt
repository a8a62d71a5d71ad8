-- The names of the states of a session (RFC 4271, 8.2.2), by their numbers in captures (RFC 6396,
-- 4.4.1).
use Rattle.std.specs.Prelude.{ℕ, List, [], ◌∷◌, codes}
use Rattle.bgp_names.specs.Naming.{named}

abbrev pub state_names : List (ℕ × List ℕ)
state_names =
    (1, codes "Idle") ∷ (2, codes "Connect") ∷ (3, codes "Active") ∷ (4, codes "OpenSent")
    ∷ (5, codes "OpenConfirm") ∷ (6, codes "Established") ∷ []

-- a state: its name, or `state N`
abbrev pub state_name : ℕ → List ℕ
state_name number = named (codes "state ") state_names number
