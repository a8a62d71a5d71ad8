-- How a decoding ends, and what it has read and written then.
use Rattle.std.specs.Prelude.{◌≡◌, ◌≢◌, ◌++◌, ◌+◌, ◌-◌, ◌⊎◌, ℕ, List, [], All, length}
use Rattle.std.specs.Prelude.{Bool, true, false, IsTrue, IsFalse, Result, Ok, Err}
use Rattle.mrt.specs.declared.sink.Sink as sinks
use Rattle.bgp_wire.specs.declared.header.Limit.{Limit}
use Rattle.bgp_wire.specs.Framing.{IsFrame, IsShort, joined}
use Rattle.bgp_wire.specs.Held.{Held}
use Rattle.bgp_tool.specs.declared.decoding.End.{End}
use Rattle.bgp_tool.specs.declared.decoding.End.TheVariants as ends
use Rattle.bgp_text.specs.declared.lines.Lines.{Lines}
use Rattle.bgp_text.specs.Lines.{Writes}
use Rattle.bgp_json.specs.Output.{IsJson, Knows, form_of, rest_output}
use Rattle.bgp_json.specs.declared.output_form.OutputForm.{OutputForm}
use Rattle.bgp_json.specs.declared.output_teller.OutputTeller.{OutputTeller}
use Rattle.bgp_tool.specs.declared.stream_options.StreamOptions.{StreamOptions}
use Rattle.bgp_tool.specs.Decoding.{AreFrameLines, IsLastLine, IsDecoded, IsSoFar, IsBeginning}
use Rattle.bgp_tool.specs.Decoding.{stream_before}

-- the exit status
abbrev pub status_of : End → ℕ
status_of ends.BetweenMessages = 0
status_of ends.InsideMessage = 2
status_of ends.AtFault = 3
status_of ends.OutOfMemory = 4
status_of ends.SourceFailed = 5
status_of ends.SinkFailed = 5

-- the text is the lines of these frames, which stand before the rest, where others came before
pub record AreLines (limit : Limit) (form : OutputForm) (before frames : List (List ℕ))
    (octets rest lines : List ℕ) : Type 0 where
  pub split : octets ≡ joined frames ++ rest
  pub each : All (IsFrame limit) frames
  pub told : AreFrameLines form before frames lines

-- The text that was written of what was given: all of it where the stream ended or a header with
-- faults came, the lines of the frames so far where the source failed, and else a beginning.
abbrev pub HasText : StreamOptions → List ℕ → List ℕ → End → Type 0
HasText options given written ends.BetweenMessages = IsDecoded options given written 0
HasText options given written ends.InsideMessage = IsDecoded options given written 2
HasText options given written ends.AtFault = IsDecoded options given written 3
HasText options given written ends.SourceFailed = IsSoFar options given written
HasText options given written ends.OutOfMemory = IsBeginning options given written
HasText options given written ends.SinkFailed = IsBeginning options given written

-- the source's count of failures
abbrev pub source_failures : ℕ → End → ℕ
source_failures count ends.SourceFailed = count + 1
source_failures count ends.BetweenMessages = count
source_failures count ends.InsideMessage = count
source_failures count ends.AtFault = count
source_failures count ends.OutOfMemory = count
source_failures count ends.SinkFailed = count

-- whether the sink failed
abbrev pub has_sink_failed : End → Bool
has_sink_failed ends.SinkFailed = true
has_sink_failed ends.BetweenMessages = false
has_sink_failed ends.InsideMessage = false
has_sink_failed ends.AtFault = false
has_sink_failed ends.OutOfMemory = false
has_sink_failed ends.SourceFailed = false

-- the stream is at its end
abbrev pub IsAtEnd : End → Type 0
IsAtEnd ends.BetweenMessages = Unit {0}
IsAtEnd ends.InsideMessage = Unit {0}
IsAtEnd ends.AtFault = ⊥
IsAtEnd ends.OutOfMemory = ⊥
IsAtEnd ends.SourceFailed = ⊥
IsAtEnd ends.SinkFailed = ⊥

-- what was given and what was written when a decoding ended, by what the source gives
pub record Reaches {R W : Type 0} {sink : sinks.Ghosts W} (options : StreamOptions)
    (gives : R → R → List ℕ → Type 0)
    (source source' : R) (lines lines' : Lines W sink) (end : End) : Type 0 where
  pub given : List ℕ
  pub text : List ℕ
  pub gave : gives source source' given
  pub wrote : Writes lines lines' text
  pub has_text : HasText options given text end
  -- nothing is held back, and a failure of the sink is told
  pub handed_over : lines'.held.items ≡ []
  pub told : lines'.outlet.has_failed ≡ has_sink_failed end

-- The text was handed over: it ended as it was to end, or the sink failed.
module _ {W : Type 0} {sink : sinks.Ghosts W} (lines lines' : Lines W sink) where
  pub record HandsOver (end end' : End) : Type 0 where
    pub wrote : Writes lines lines' []
    pub handed_over : lines'.held.items ≡ []
    pub told : (IsFalse lines'.outlet.has_failed × (end' ≡ end))
        ⊎ (IsTrue lines'.outlet.has_failed × (end' ≡ ends.SinkFailed))

  -- The whole frames that a splitter held were written, behind those that came before, up to what
  -- is no frame; and the line of a header with faults, if one stands there. Or memory was refused
  -- for a line, and those before it were written. So many octets were given when what it held ends.
  abbrev pub PutsFrames : {E : Type 0} → ℕ → List (List ℕ) → Held → Held → OutputTeller
      → OutputTeller → Result Bool E → Type 0
  PutsFrames given before held left old new (Ok false) =
      (frames : List (List ℕ)) × (text : List ℕ)
      × AreLines held.limit (form_of old) before frames held.octets left.octets text
      × IsShort held.limit left.octets × (left ≡ record held { octets = left.octets })
      × (form_of new ≡ form_of old) × Knows new (stream_before (before ++ frames))
      × Writes lines lines' text
  PutsFrames given before held left old new (Ok true) =
      (frames : List (List ℕ)) × (rest text last : List ℕ)
      × AreLines held.limit (form_of old) before frames held.octets rest text
      × IsLastLine held.limit (form_of old) (given - length rest) rest last 3
      × Writes lines lines' (text ++ last)
  PutsFrames given before held left old new (Err refused) =
      (frames : List (List ℕ)) × (rest text : List ℕ)
      × AreLines held.limit (form_of old) before frames held.octets rest text
      × IsJson (form_of old) × Writes lines lines' text

  -- the octets behind the last frame, which stand at this offset at the end of the stream, were
  -- told, or memory was refused for their line
  abbrev pub PutsRest : OutputForm → ℕ → List ℕ → End → Type 0
  PutsRest form offset rest ends.BetweenMessages = (rest ≡ []) × Writes lines lines' []
  PutsRest form offset rest ends.InsideMessage =
      (rest ≢ []) × Writes lines lines' (rest_output form offset rest)
  PutsRest form offset rest ends.OutOfMemory = IsJson form × Writes lines lines' []
  PutsRest form offset rest ends.AtFault = ⊥
  PutsRest form offset rest ends.SourceFailed = ⊥
  PutsRest form offset rest ends.SinkFailed = ⊥
