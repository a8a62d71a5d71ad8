-- Lines of JSON without control characters.
use Rattle.std.specs.Prelude.{◌≡◌, ◌≤◌, ◌++◌, ℕ, List, codes}
use Rattle.std.specs.List.{AllByRecursion}
use Rattle.bgp_json.specs.Line.{IsOneValue}

-- no octet is a control character of ASCII
abbrev pub AreVisible : List ℕ → Type 0
AreVisible octets = AllByRecursion (λ octet. 32 ≤ octet) octets

-- The line of a value has none but the line feed at its end.
abbrev pub NoLineHasAControlCharacter : Type 0
NoLineHasAControlCharacter =
    (line : List ℕ) → IsOneValue line
    → (text : List ℕ) × (line ≡ text ++ codes "\n") × AreVisible text
