-- What the laws of `check` in JSON say: what is printed in JSON determines what the text is.
use Rattle.std.specs.Prelude.{◌≡◌, ◌≢◌, ◌<◌, ◌^◌, ℕ, List, All, flat_map, length}
use Rattle.bgp_json_verdicts.specs.Telling.{lines_of}
use Rattle.bgp_check_lines.specs.Printed.{IsToldInJson}
use Rattle.bgp_check_lines.specs.Values.{CheckValue, objects_of, value_objects, value_text}
use Rattle.bgp_check_laws.specs.Ranges.{IsLine}

-- a line with these objects has one text, however many verdicts there are up to it
abbrev pub LinesAreDetermined : Type 0
LinesAreDetermined =
    (judged also : ℕ) (line other : CheckValue) → IsLine line → IsLine other
    → value_objects judged line ≡ value_objects also other → value_text line ≡ value_text other

-- the lines of an output, which can be counted
pub record AreLines (lines : List CheckValue) : Type 0 where
  pub each : All IsLine lines
  pub count : length lines < 2 ^ 64

-- outputs with the same objects have one text
abbrev pub ObjectsAreDetermined : Type 0
ObjectsAreDetermined =
    (lines others : List CheckValue) → AreLines lines → AreLines others
    → objects_of lines ≡ objects_of others → flat_map value_text lines ≡ flat_map value_text others

-- and so have outputs with one text in JSON
abbrev pub OutputsAreDetermined : Type 0
OutputsAreDetermined =
    (lines others : List CheckValue) → AreLines lines → AreLines others
    → lines_of (objects_of lines) ≡ lines_of (objects_of others)
    → flat_map value_text lines ≡ flat_map value_text others

-- and texts for which the same is printed in JSON, if memory wasn't refused (status 4)
abbrev pub PrintedIsDetermined : Type 0
PrintedIsDetermined =
    (text other printed : List ℕ) (code also status state : ℕ) → status ≢ 4 → state ≢ 4
    → (told : IsToldInJson text code printed status)
    → (retold : IsToldInJson other also printed state)
    → AreLines told.values → AreLines retold.values → text ≡ other
