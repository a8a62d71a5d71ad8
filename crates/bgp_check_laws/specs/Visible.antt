-- What the laws of `check` in JSON say of its characters: no line has a control character but the
-- line feed at its end.
use Rattle.std.specs.Prelude.{⊤, ℕ, List, All}
use Rattle.bgp_json_verdicts.specs.Telling.{lines_of}
use Rattle.bgp_check_lines.specs.Printed.{IsToldInJson}
use Rattle.bgp_check_lines.specs.Values.{CheckValue, IsYes, IsNo, IsUnfinished, IsUnjudged}
use Rattle.bgp_check_lines.specs.Values.{IsUnnamed, Explains, PassesOver, IsIncomplete, IsNotRead}
use Rattle.bgp_check_lines.specs.Values.{InMadeOrder, OneOrder, AnotherOrder, AllOrders, IsLate}
use Rattle.bgp_check_lines.specs.Values.{IsEnded, IsOpen, Repeats, Lists, HasSession}
use Rattle.bgp_check_lines.specs.Values.{RefusesFile, RefusesCapture, IsCutShort, NothingAt}
use Rattle.bgp_check_lines.specs.Values.{NoRecord, Counts, objects_of, value_objects}
use Rattle.bgp_visible_laws.specs.Visible.{AreVisibleLines, IsVisible}
use Rattle.bgp_why_laws.specs.Visible as reasons
use Rattle.bgp_check_laws.specs.Ranges.{IsLine}

-- ---- lines as they are printed

-- the texts of a line are visible
abbrev pub HasVisibleTexts : CheckValue → Type 0
HasVisibleTexts (IsYes routes name peer reached ends) = ⊤
HasVisibleTexts (IsNo place name deed) = IsVisible deed
HasVisibleTexts (IsUnfinished place name) = ⊤
HasVisibleTexts (IsUnjudged name why) = ⊤
HasVisibleTexts (IsUnnamed end part why) = IsVisible why
HasVisibleTexts (Explains lines) = All reasons.HasVisibleTexts lines
HasVisibleTexts (PassesOver direction count) = ⊤
HasVisibleTexts (IsIncomplete direction count) = ⊤
HasVisibleTexts (IsNotRead direction at count is_refresh) = ⊤
HasVisibleTexts (InMadeOrder first deed place) = IsVisible deed
HasVisibleTexts (OneOrder count) = ⊤
HasVisibleTexts AnotherOrder = ⊤
HasVisibleTexts AllOrders = ⊤
HasVisibleTexts (IsLate within is_yes) = ⊤
HasVisibleTexts (IsEnded first number micro by ended) = ⊤
HasVisibleTexts IsOpen = ⊤
HasVisibleTexts (Repeats options) = ⊤
HasVisibleTexts (Lists line) = ⊤
HasVisibleTexts (HasSession addresses named) = ⊤
HasVisibleTexts (RefusesFile refusal) = ⊤
HasVisibleTexts (RefusesCapture fault) = ⊤
HasVisibleTexts (IsCutShort packet) = ⊤
HasVisibleTexts (NothingAt port) = ⊤
HasVisibleTexts NoRecord = ⊤
HasVisibleTexts (Counts tally) = ⊤

-- a line whose objects determine its text, and whose texts are visible
pub record IsPutLine (line : CheckValue) : Type 0 where
  pub determined : IsLine line
  pub visible : HasVisibleTexts line

-- ---- laws

-- the lines of a line's objects, however many verdicts there are up to it
abbrev pub LinesAreVisible : Type 0
LinesAreVisible =
    (judged : ℕ) (line : CheckValue) → IsPutLine line
    → AreVisibleLines (lines_of (value_objects judged line))

-- all lines of an output
abbrev pub OutputsAreVisible : Type 0
OutputsAreVisible =
    (lines : List CheckValue) → All IsPutLine lines
    → AreVisibleLines (lines_of (objects_of lines))

-- what is printed of a text in JSON, also if memory was refused for one of its lines
abbrev pub PrintedIsVisible : Type 0
PrintedIsVisible =
    (text printed : List ℕ) (code status : ℕ) → (told : IsToldInJson text code printed status)
    → All IsPutLine told.values → AreVisibleLines printed
