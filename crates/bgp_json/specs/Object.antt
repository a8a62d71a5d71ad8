-- The object of a line, and its text.
use Rattle.std.specs.Prelude.{◌++◌, ℕ, List, ◌∷◌, codes}
use Rattle.json.specs.Json.{Json, string}
use Rattle.json.specs.Print.{print}
use Rattle.json.specs.Tree.{json_tokens}
use Rattle.bgp_json_values.specs.Objects.{object_of}

-- an object that says first what it tells of
abbrev pub typed : List ℕ → List (List ℕ × Json) → Json
typed kind members = object_of ((codes "type", string kind) ∷ members)

-- a line: a value without a blank, and a line feed
unfoldable pub json_line : Json → List ℕ
json_line value = print (json_tokens value) ++ codes "\n"
