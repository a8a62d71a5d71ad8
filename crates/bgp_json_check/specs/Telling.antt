-- Objects that are told one after another, as far as there is memory for them.
use Rattle.std.specs.Prelude.{◌≡◌, ◌+◌, ℕ, false, List, if◌then◌else◌}
use Rattle.json.specs.Json.{Json}
use Rattle.mrt.specs.declared.sink.Sink as sinks
use Rattle.bgp_text.specs.declared.lines.Lines.{Lines}
use Rattle.bgp_json_verdicts.specs.Telling.{PutsObjects}
use Rattle.bgp_json_check.specs.declared.teller.CheckTeller.{CheckTeller}

-- the exit status of what has this one: that of memory, where it was refused for an object
abbrev pub told_status : CheckTeller → ℕ → ℕ
told_status teller code = if teller.has_failed then 4 else code

-- These objects were put, or memory was refused for one, and those before it were. If it wasn't, so
-- many verdicts are counted then.
pub record TellsUpTo {W : Type 0} {sink : sinks.Ghosts W} (before after : CheckTeller)
    (old new : Lines W sink) (judged : ℕ) (objects : List Json) : Type 0 where
  pub counted : after.has_failed ≡ false → after.judged ≡ judged
  pub puts : PutsObjects old new objects before.has_failed after.has_failed

-- no verdict is among them
abbrev pub Tells : {W : Type 0} {sink : sinks.Ghosts W} → CheckTeller → CheckTeller
    → Lines W sink → Lines W sink → List Json → Type 0
Tells before after old new objects = TellsUpTo before after old new before.judged objects

-- one verdict is among them, the first
abbrev pub TellsVerdict : {W : Type 0} {sink : sinks.Ghosts W} → CheckTeller → CheckTeller
    → Lines W sink → Lines W sink → List Json → Type 0
TellsVerdict before after old new objects =
    TellsUpTo before after old new (before.judged + 1) objects
