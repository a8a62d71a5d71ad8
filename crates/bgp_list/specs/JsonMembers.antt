-- Members that several objects of a list have.
use Rattle.std.specs.Prelude.{ℕ, List, [], ◌∷◌, Option, None, Some}
use Rattle.json.specs.Json.{Json}
use Rattle.bgp_ended.specs.DeclaredEndpoint.{Endpoint}
use Rattle.bgp_json_values.specs.Objects.{array_of, number_of}
use Rattle.bgp_json_values.specs.Texts.{address_json}

-- a number, if there is one
abbrev pub number_members : List ℕ → Option ℕ → List (List ℕ × Json)
number_members key None = []
number_members key (Some number) = (key, number_of number) ∷ []

-- an end: its address, and its port if it is known
abbrev pub endpoint_members : List ℕ → List ℕ → Endpoint → List (List ℕ × Json)
endpoint_members key port_key end =
    (key, address_json end.address) ∷ number_members port_key end.port

-- two numbers
abbrev pub pair_members : List ℕ → ℕ → ℕ → List (List ℕ × Json)
pair_members key first second = (key, array_of number_of (first ∷ second ∷ [])) ∷ []
