-- The line of an object, as it is put.
use Rattle.std.specs.Prelude.{◌≡◌, ℕ, List, [], Some, IsUtf8, Result, MatchResult}
use Rattle.json.specs.Json.{Json, document}
use Rattle.json.specs.Print.{print}
use Rattle.json.specs.Tree.{json_tokens}
use Rattle.mrt.specs.declared.sink.Sink as sinks
use Rattle.bgp_text.specs.Lines.{Writes}
use Rattle.bgp_text.specs.declared.lines.Lines.{Lines}
use Rattle.bgp_json.specs.Object.{json_line}

-- The line is that of a value, and a reader of JSON (RFC 8259) reads its text, which is UTF-8, as
-- that value: one, and nothing besides.
pub record IsOneValue (line : List ℕ) : Type 0 where
  pub value : Json
  pub is_its : line ≡ json_line value
  pub reads_back : document (print (json_tokens value)) ≡ Some value
  pub utf8 : IsUtf8 (print (json_tokens value))

-- a line of one value was put; nothing was, if memory was refused
abbrev pub PutsLine : {E W : Type 0} {sink : sinks.Ghosts W} → Result (Unit {0}) E
    → Lines W sink
    → Lines W sink → List ℕ → Type 0
PutsLine result old new line =
    MatchResult result (λ _. Writes old new line × IsOneValue line) (λ _. Writes old new [])
