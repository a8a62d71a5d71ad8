-- What the laws of verdicts in JSON say: what is printed in JSON determines what the text is.
use Rattle.std.specs.Prelude.{◌≡◌, ◌≢◌, ◌⊎◌, ◌++◌, ◌<◌, ◌≤◌, ◌^◌, ⊤, ℕ, List, [], Option, None}
use Rattle.std.specs.Prelude.{Some, All, IsUtf8, codes, flat_map, length}
use Rattle.json.specs.Tree.{HasNumbers}
use Rattle.bgp_path.specs.AsPath.{PathSegment}
use Rattle.bgp_why.specs.declared.place.Place.{Place}
use Rattle.bgp_json_verdicts.specs.Lines.{LineValue, Opens, Answers, Ends, HasRoute, Reasons}
use Rattle.bgp_json_verdicts.specs.Lines.{RefusesCapture, Refuses, line_text}
use Rattle.bgp_json_verdicts.specs.Lines.{ReasonValue, TheRecord, TheMessage, TheData, IsUnfit}
use Rattle.bgp_json_verdicts.specs.Lines.{AnotherAs, TheState, LastReceived, Possible}
use Rattle.bgp_json_verdicts.specs.Lines.{InAnotherOrder, OtherOrdersUnknown}
use Rattle.bgp_json_verdicts.specs.Lines.{SentAlready, Note, Records, Ignored, OtherSessions}
use Rattle.bgp_json_verdicts.specs.Lines.{OtherKinds}
use Rattle.bgp_json_verdicts.specs.Objects.{line_json, objects_of}
use Rattle.bgp_json_verdicts.specs.Telling.{lines_of}
use Rattle.bgp_json_verdicts.specs.declared.at.At.{At}
use Rattle.bgp_json_verdicts.specs.declared.telling.Counts.{Counts}
use Rattle.bgp_verdict_lines.specs.Printed.{IsToldInJson}

-- ---- lines as they are printed

-- a text behind this mark, which is UTF-8 and not empty
pub record IsMarked (mark text : List ℕ) : Type 0 where
  pub said : List ℕ
  pub is_its : text ≡ mark ++ said
  pub some : 0 < length said
  pub utf8 : IsUtf8 said

-- or no text at all
abbrev pub IsMarkedIfAny : List ℕ → List ℕ → Type 0
IsMarkedIfAny mark text = (text ≡ []) ⊎ IsMarked mark text

-- a time has 64 bits
abbrev pub IsPlace : Place → Type 0
IsPlace place = place.second < 2 ^ 64

abbrev pub IsAt : At → Type 0
IsAt at = IsPlace at.place

abbrev pub IsAtIfAny : Option At → Type 0
IsAtIfAny None = ⊤
IsAtIfAny (Some at) = IsAt at

-- texts are UTF-8, and what stands behind a colon or a semicolon isn't empty
abbrev pub IsReason : ReasonValue → Type 0
IsReason (TheRecord place local deed) = IsPlace place × IsUtf8 deed
IsReason (TheMessage text) = IsUtf8 text
IsReason (TheData text) = IsUtf8 text
IsReason (IsUnfit why) = ⊤
IsReason (AnotherAs number) = number < 2 ^ 64
IsReason (TheState state since) = IsAtIfAny since
IsReason (LastReceived at name asked) = IsAt at × IsUtf8 name × IsMarkedIfAny (codes ": ") asked
IsReason (Possible is_owed is_next is_first item but) =
    IsUtf8 item × IsMarkedIfAny (codes "; ") but
IsReason (InAnotherOrder item) = IsUtf8 item
IsReason OtherOrdersUnknown = ⊤
IsReason (SentAlready code subcode at) = IsAt at
IsReason (Note text) = IsUtf8 text
IsReason (Records received sent changes) = ⊤
IsReason (Ignored count) = ⊤
IsReason (OtherSessions count first) = ⊤
IsReason (OtherKinds count) = ⊤

-- each segment of a path has numbers (RFC 7606, 7.2)
abbrev pub IsFilled : PathSegment → Type 0
IsFilled segment = 1 ≤ length segment.numbers

abbrev pub IsLine : LineValue → Type 0
IsLine (Opens session opening) = ⊤
IsLine (Answers answer) = ⊤
IsLine (Ends state disabled) = ⊤
IsLine (HasRoute destination path) = All IsFilled path.as_path
IsLine (Reasons reason) = IsReason reason
IsLine (RefusesCapture fault) = ⊤
IsLine (Refuses refusal) = ⊤

-- ---- laws

-- lines with one object have one text, however many verdicts and ends there are up to them
abbrev pub LinesAreDetermined : Type 0
LinesAreDetermined =
    (counts also : Counts) (line other : LineValue) → IsLine line → IsLine other
    → line_json counts line ≡ line_json also other → line_text line ≡ line_text other

-- lines of an output, whose numbers JSON can have (RFC 8259, 6)
pub record AreLines (lines : List LineValue) : Type 0 where
  pub each : All IsLine lines
  pub numbers : All HasNumbers (objects_of lines)

-- outputs with one text in JSON have one text
abbrev pub OutputsAreDetermined : Type 0
OutputsAreDetermined =
    (lines others : List LineValue) → AreLines lines → AreLines others
    → lines_of (objects_of lines) ≡ lines_of (objects_of others)
    → flat_map line_text lines ≡ flat_map line_text others

-- and so have texts for which the same is printed in JSON, if memory wasn't refused (status 4)
abbrev pub PrintedIsDetermined : Type 0
PrintedIsDetermined =
    (text other printed : List ℕ) (code also status state : ℕ) → status ≢ 4 → state ≢ 4
    → (told : IsToldInJson text code printed status)
    → (retold : IsToldInJson other also printed state)
    → AreLines told.lines → AreLines retold.lines → text ≡ other
