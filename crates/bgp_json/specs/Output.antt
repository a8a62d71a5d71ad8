-- The lines that `bgp decode` prints, in each of its forms: as text, which is bgp_lines', or as
-- JSON.
use Rattle.std.specs.Prelude.{◌≡◌, ◌++◌, ◌+◌, ℕ, List, [], ◌∷◌, Result, MatchResult}
use Rattle.json.specs.Json.{Json}
use Rattle.bgp_prefix.specs.declared.session.Session.{Session}
use Rattle.bgp_wire.specs.declared.header.HeaderFaults.{HeaderFaults}
use Rattle.mrt.specs.declared.fault.CaptureFault.{CaptureFault}
use Rattle.mrt.specs.declared.sink.Sink as sinks
use Rattle.bgp_text.specs.Capture.{refused_line}
use Rattle.bgp_text.specs.Lines.{Writes}
use Rattle.bgp_text.specs.declared.lines.Lines.{Lines}
use Rattle.bgp_values.specs.declared.opens.Direction.{Direction}
use Rattle.bgp_lines.specs.Form as texts
use Rattle.bgp_lines.specs.Form.{Before, PlacedRecord, before_behind, fault_line_in, rest_line_in}
use Rattle.bgp_lines.specs.Telling as text_tellers
use Rattle.bgp_json.specs.Line.{IsOneValue}
use Rattle.bgp_json.specs.Object.{json_line}
use Rattle.bgp_json.specs.Others.{capture_json, header_json, rest_json}
use Rattle.bgp_json.specs.RecordJson as objects
use Rattle.bgp_json.specs.Telling as json_tellers
use Rattle.bgp_json.specs.declared.output_form.OutputForm.{OutputForm}
use Rattle.bgp_json.specs.declared.output_form.OutputForm.TheVariants as forms
use Rattle.bgp_json.specs.declared.output_teller.OutputTeller.{OutputTeller}
use Rattle.bgp_json.specs.declared.output_teller.OutputTeller.TheVariants as tellers
use Rattle.bgp_json.specs.declared.place.Place.TheVariants.{InStream}

-- lines are made in memory
abbrev pub IsJson : OutputForm → Type 0
IsJson (forms.Text form) = ⊥
IsJson (forms.Json as2) = Unit {0}

-- the line of some value
abbrev pub IsJsonLine : List ℕ → Type 0
IsJsonLine line = (value : Json) × (line ≡ json_line value)

-- in JSON a line is one value
abbrev pub HasForm : OutputForm → List ℕ → Type 0
HasForm (forms.Text form) line = Unit {0}
HasForm (forms.Json as2) line = IsOneValue line

-- A line of this form was put. Nothing was put if memory was refused, as it can be in JSON alone.
abbrev pub PutsOutput : {E W : Type 0} {sink : sinks.Ghosts W} → OutputForm
    → Result (Unit {0}) E → Lines W sink → Lines W sink → List ℕ → Type 0
PutsOutput form result old new line =
    MatchResult result (λ _. Writes old new line × HasForm form line)
    (λ _. Writes old new [] × IsJson form)

-- the line of a frame of a stream, which stands at this offset
abbrev pub IsFrameOutput : OutputForm → Before → Direction → ℕ → List ℕ → List ℕ → Type 0
IsFrameOutput (forms.Text form) before direction offset frame line =
    texts.IsFrameLine form before direction frame line
IsFrameOutput (forms.Json as2) before direction offset frame line =
    objects.IsFrameLine before as2 direction offset frame line

-- the line of what a stream has behind its last frame, at this offset
abbrev pub rest_output : OutputForm → ℕ → List ℕ → List ℕ
rest_output (forms.Text form) offset rest = rest_line_in form rest
rest_output (forms.Json as2) offset rest = json_line (rest_json offset rest)

-- the line of a header with faults, which stands at this offset
abbrev pub fault_output : OutputForm → ℕ → HeaderFaults → List ℕ → List ℕ
fault_output (forms.Text form) offset faults header = fault_line_in form offset faults header
fault_output (forms.Json as2) offset faults header =
    json_line (header_json (InStream offset) faults header header)

-- the line of a record of the session, with its number
abbrev pub IsRecordOutput : OutputForm → Session → Before → ℕ → PlacedRecord → List ℕ → Type 0
IsRecordOutput (forms.Text form) session before number placed line =
    texts.IsPlacedLine form session before placed line
IsRecordOutput (forms.Json as2) session before number placed line =
    objects.IsPlacedLine session before as2 number placed line

-- the lines of records, one after another, numbered on from this
abbrev pub AreRecordOutputs : OutputForm → Session → Before → ℕ → List PlacedRecord → List ℕ
    → Type 0
AreRecordOutputs form session before number [] text = text ≡ []
AreRecordOutputs form session before number (placed ∷ records) text =
    (line rest : List ℕ) × IsRecordOutput form session before number placed line
    × AreRecordOutputs form session (before_behind placed.shown before) (number + 1) records rest
    × (text ≡ line ++ rest)

-- the line of a capture that is refused
abbrev pub refusal_output : OutputForm → CaptureFault → List ℕ
refusal_output (forms.Text form) fault = refused_line fault.kind fault.offset
refusal_output (forms.Json as2) fault = json_line (capture_json fault)

-- ---- what puts the lines of the messages of a session

-- the form in which it puts them
abbrev pub form_of : OutputTeller → OutputForm
form_of (tellers.Text teller) = forms.Text teller.form
form_of (tellers.Json teller) = forms.Json teller.as2

-- it knows what its lines depend on of these messages
abbrev pub Knows : OutputTeller → Before → Type 0
Knows (tellers.Text teller) before = text_tellers.Knows teller before
Knows (tellers.Json teller) before = json_tellers.Knows teller before
