-- Lines of JSON, one behind another.
use Rattle.std.specs.Prelude.{◌≡◌, ◌++◌, ℕ, List, OnOk, Result}
use Rattle.std.specs.List.{AllByRecursion, flat_map}
use Rattle.json.specs.Json.{Json}
use Rattle.bgp_json.specs.Line.{IsOneValue}
use Rattle.bgp_json.specs.Object.{json_line}

-- the text is the lines of these objects, and a reader reads each of them back
pub record AreObjects (text : List ℕ) (objects : List Json) : Type 0 where
  pub are_lines : text ≡ flat_map json_line objects
  pub are_values : AllByRecursion (λ value. IsOneValue (json_line value)) objects

-- the line of an object was appended to a text, if there was memory for it
abbrev pub AddsObject : {E : Type 0} → Result (Unit {0}) E → List ℕ → List ℕ → Json → Type 0
AddsObject result old new value =
    OnOk result ((new ≡ old ++ json_line value) × IsOneValue (json_line value))
