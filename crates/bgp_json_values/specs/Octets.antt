-- Octets beside a value: they are there if it doesn't say all of them.
use Rattle.std.specs.Prelude.{ℕ, List, [], ◌∷◌, Option, None, Some, bytes_eq, codes}
use Rattle.std.specs.Prelude.{if◌then◌else◌}
use Rattle.json.specs.Json.{Json}
use Rattle.bgp_json_values.specs.Texts.{octets_json}

abbrev pub octets_members : List ℕ → List (List ℕ × Json)
octets_members octets = (codes "octets", octets_json octets) ∷ []

-- octets, unless a value spells just these
abbrev pub unless_spelled : List ℕ → List ℕ → List (List ℕ × Json)
unless_spelled spelled octets =
    if bytes_eq spelled octets then [] else octets_members octets

-- a value, with the octets if it doesn't spell them
abbrev pub value_members : Json → List ℕ → List ℕ → List (List ℕ × Json)
value_members value spelled octets = (codes "value", value) ∷ unless_spelled spelled octets

-- the value that octets have, by its JSON and by the octets that it spells; the octets if there is
-- none, or it doesn't spell them
abbrev pub value_or_octets : {V : Type 0} → (V → Json) → (V → List ℕ) → Option V → List ℕ
    → List (List ℕ × Json)
value_or_octets json spelled None octets = octets_members octets
value_or_octets json spelled (Some v) octets = value_members (json v) (spelled v) octets
