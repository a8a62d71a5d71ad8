-- What the laws say of verdicts in JSON: no line has a control character but the line feed at its
-- end.
use Rattle.std.specs.Prelude.{⊤, ℕ, List, All}
use Rattle.bgp_json.specs.Object.{json_line}
use Rattle.bgp_json_verdicts.specs.Lines.{LineValue, Opens, Answers, Ends, HasRoute, Reasons}
use Rattle.bgp_json_verdicts.specs.Lines.{RefusesCapture, Refuses}
use Rattle.bgp_json_verdicts.specs.Lines.{ReasonValue, TheRecord, TheMessage, TheData, IsUnfit}
use Rattle.bgp_json_verdicts.specs.Lines.{AnotherAs, TheState, LastReceived, Possible}
use Rattle.bgp_json_verdicts.specs.Lines.{InAnotherOrder, OtherOrdersUnknown}
use Rattle.bgp_json_verdicts.specs.Lines.{SentAlready, Note, Records, Ignored, OtherSessions}
use Rattle.bgp_json_verdicts.specs.Lines.{OtherKinds}
use Rattle.bgp_json_verdicts.specs.Objects.{line_json, objects_of}
use Rattle.bgp_json_verdicts.specs.Telling.{lines_of}
use Rattle.bgp_json_verdicts.specs.declared.telling.Counts.{Counts}
use Rattle.bgp_verdict_laws.specs.Laws.{IsLine}
use Rattle.bgp_verdict_laws.specs.Printed.{IsToldInJson}
use Rattle.bgp_visible_laws.specs.Visible.{AreVisibleLines, IsVisible, IsVisibleLine}

-- ---- lines as they are printed

-- the texts of a line are visible
abbrev pub IsVisibleReason : ReasonValue → Type 0
IsVisibleReason (TheRecord place local deed) = IsVisible deed
IsVisibleReason (TheMessage text) = IsVisible text
IsVisibleReason (TheData text) = IsVisible text
IsVisibleReason (IsUnfit why) = ⊤
IsVisibleReason (AnotherAs number) = ⊤
IsVisibleReason (TheState state since) = ⊤
IsVisibleReason (LastReceived at name asked) = IsVisible name × IsVisible asked
IsVisibleReason (Possible is_owed is_next is_first item but) = IsVisible item × IsVisible but
IsVisibleReason (InAnotherOrder item) = IsVisible item
IsVisibleReason OtherOrdersUnknown = ⊤
IsVisibleReason (SentAlready code subcode at) = ⊤
IsVisibleReason (Note text) = IsVisible text
IsVisibleReason (Records received sent changes) = ⊤
IsVisibleReason (Ignored count) = ⊤
IsVisibleReason (OtherSessions count first) = ⊤
IsVisibleReason (OtherKinds count) = ⊤

abbrev pub HasVisibleTexts : LineValue → Type 0
HasVisibleTexts (Opens session opening) = ⊤
HasVisibleTexts (Answers answer) = ⊤
HasVisibleTexts (Ends state disabled) = ⊤
HasVisibleTexts (HasRoute destination path) = ⊤
HasVisibleTexts (Reasons reason) = IsVisibleReason reason
HasVisibleTexts (RefusesCapture fault) = ⊤
HasVisibleTexts (Refuses refusal) = ⊤

-- a line whose object determines its text, and whose texts are visible
pub record IsPutLine (line : LineValue) : Type 0 where
  pub determined : IsLine line
  pub visible : HasVisibleTexts line

-- ---- laws

-- a line, however many verdicts and ends there are up to it
abbrev pub LinesAreVisible : Type 0
LinesAreVisible =
    (counts : Counts) (line : LineValue) → IsPutLine line
    → IsVisibleLine (json_line (line_json counts line))

-- all lines of an output
abbrev pub OutputsAreVisible : Type 0
OutputsAreVisible =
    (lines : List LineValue) → All IsPutLine lines → AreVisibleLines (lines_of (objects_of lines))

-- what is printed of a text in JSON, also if memory was refused for one of its lines
abbrev pub PrintedIsVisible : Type 0
PrintedIsVisible =
    (text printed : List ℕ) (code status : ℕ) → (told : IsToldInJson text code printed status)
    → All IsPutLine told.lines → AreVisibleLines printed
