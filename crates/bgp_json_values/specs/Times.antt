-- A second since 1970, and the microseconds of its fraction.
use Rattle.std.specs.Prelude.{ℕ, List, [], ◌∷◌, Option, None, Some, codes, nat_lt, if◌then◌else◌}
use Rattle.json.specs.Json.{Json}
use Rattle.bgp_json_values.specs.Objects.{number_of}

-- nothing for a number that isn't below 1,000,000, which is no fraction
abbrev pub fraction_members : ℕ → List (List ℕ × Json)
fraction_members micro = if nat_lt micro 1000000 then (codes "micro", number_of micro) ∷ [] else []

abbrev pub micro_members : Option ℕ → List (List ℕ × Json)
micro_members None = []
micro_members (Some micro) = fraction_members micro

-- the second, and its fraction if it has one
abbrev pub time_members : ℕ → Option ℕ → List (List ℕ × Json)
time_members second micro = (codes "second", number_of second) ∷ micro_members micro
