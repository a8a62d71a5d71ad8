-- The lines of a reason in JSON, as they are made in memory.
use Rattle.std.specs.Prelude.{◌≡◌, ℕ, List}
use Rattle.std.specs.List.{flat_map}
use Rattle.bgp_json_check.specs.JsonVerdictsLines.{LineValue, line_text}
use Rattle.bgp_json_check.specs.JsonVerdictsObjects.{counts_behind, objects_from}
use Rattle.bgp_json_check.specs.JsonVerdictsTelling.{AreValues, lines_of}

-- these are the objects, behind so many verdicts, of lines that have this text
abbrev pub AreToldAs : ℕ → List ℕ → List ℕ → Type 0
AreToldAs judged text printed =
    (lines : List LineValue) × (flat_map line_text lines ≡ text)
    × (printed ≡ lines_of (objects_from (counts_behind judged) lines))
    × AreValues (objects_from (counts_behind judged) lines)
