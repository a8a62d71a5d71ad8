-- Objects that are put, a line each, as far as there is memory for them.
use Rattle.std.specs.Prelude.{◌≡◌, ◌++◌, ℕ, Bool, true, false, List, []}
use Rattle.std.specs.Prelude.{Result, MatchResult, if◌then◌else◌}
use Rattle.std.specs.List.{AllByRecursion, flat_map}
use Rattle.json.specs.Json.{Json}
use Rattle.mrt.specs.declared.sink.Sink as sinks
use Rattle.bgp_text.specs.Lines.{Writes}
use Rattle.bgp_text.specs.declared.lines.Lines.{Lines}
use Rattle.bgp_tool.specs.Line.{IsOneValue}
use Rattle.bgp_tool.specs.Object.{json_line}
use Rattle.bgp_json_verdicts.specs.Lines.{LineValue, line_text}
use Rattle.bgp_json_verdicts.specs.Objects.{counted_from, counted_with, line_json}
use Rattle.bgp_json_verdicts.specs.Objects.{objects_from}
use Rattle.bgp_json_verdicts.specs.declared.telling.Counts.{Counts}
use Rattle.bgp_json_verdicts.specs.declared.telling.Telling.{Telling}

-- a reader of JSON reads each of their lines as its one value
abbrev pub AreValues : List Json → Type 0
AreValues objects = AllByRecursion (λ value. IsOneValue (json_line value)) objects

-- the lines of objects
abbrev pub lines_of : List Json → List ℕ
lines_of objects = flat_map json_line objects

-- memory was refused for one of them, and those before it are there
pub record ArePutInPart (objects : List Json) (text : List ℕ) : Type 0 where
  pub put : List Json
  pub left : List Json
  pub whole : objects ≡ put ++ left
  pub prints : text ≡ lines_of put
  pub values : AreValues put

-- by whether memory had been refused before, and is refused now
module _ {W : Type 0} {sink : sinks.Ghosts W} (old new : Lines W sink) (objects : List Json) where
  abbrev pub PutsObjects : Bool → Bool → Type 0
  PutsObjects false false = Writes old new (lines_of objects) × AreValues objects
  PutsObjects false true = (text : List ℕ) × ArePutInPart objects text × Writes old new text
  PutsObjects true true = Writes old new []
  PutsObjects true false = ⊥

-- the object of a line was put behind others with so many verdicts and ends; nothing was, if memory
-- was refused
abbrev pub PutsCounted : {E W : Type 0} {sink : sinks.Ghosts W} → Result Counts E → Lines W sink
    → Lines W sink → Counts → LineValue → Type 0
PutsCounted result old new counts line =
    MatchResult result
    (λ after. (after ≡ counted_with counts line)
    × Writes old new (json_line (line_json after line)) × IsOneValue (json_line (line_json after line)))
    (λ error. Writes old new [])

-- the exit status of what has this one: that of memory, where it was refused for an object
abbrev pub told_status : Telling → ℕ → ℕ
told_status telling code = if telling.has_failed then 4 else code

-- lines were told, behind others with so many verdicts and ends
pub record Tells {W : Type 0} {sink : sinks.Ghosts W} (before after : Telling)
    (old new : Lines W sink) (lines : List LineValue) : Type 0 where
  pub counted : after.has_failed ≡ false → after.counts ≡ counted_from before.counts lines
  pub puts : PutsObjects old new (objects_from before.counts lines) before.has_failed
      after.has_failed

-- lines were told that have this text where they aren't told in JSON
abbrev pub TellsText : {W : Type 0} {sink : sinks.Ghosts W} → Telling → Telling → Lines W sink
    → Lines W sink → List ℕ → Type 0
TellsText before after old new text =
    (lines : List LineValue) × (flat_map line_text lines ≡ text) × Tells before after old new lines
