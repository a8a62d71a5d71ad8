-- What decoding a capture reads, writes and answers.
use Rattle.std.specs.Prelude.{◌≡◌, ◌⊎◌, ◌++◌, ◌+◌, ℕ, Bool, List, [], length, map}
use Rattle.std.specs.Prelude.{Option, None, Result, Ok, Err, IsOk, IsTrue, IsFalse, MatchResult}
use Rattle.bgp_prefix.specs.Shown.{ShownRecord}
use Rattle.bgp_prefix.specs.declared.session.Session.{Session}
use Rattle.mrt.specs.Capture.{Piece, ArePieces, IsBegun, joined, last_of, records_of}
use Rattle.mrt.specs.Reader.{ReaderState}
use Rattle.mrt.specs.Progress.{failures_of}
use Rattle.mrt.specs.ReadBy.{Knows}
use Rattle.mrt.specs.Reading.{IsRefused}
use Rattle.mrt.specs.declared.fault.CaptureFault.{CaptureFault}
use Rattle.mrt.specs.declared.fault.FaultKind.{FaultKind}
use Rattle.mrt.specs.declared.fault.FaultKind.TheVariants as kinds
use Rattle.mrt.specs.declared.sink.Sink as sinks
use Rattle.bgp_judge.specs.Judging.{fault_in}
use Rattle.bgp_text.specs.declared.lines.Lines.{Lines}
use Rattle.bgp_text.specs.Lines.{Writes}
use Rattle.bgp_json.specs.Form.{nothing_before}
use Rattle.bgp_json.specs.LinesTelling.{placed_as}
use Rattle.bgp_json.specs.Output.{AreRecordOutputs, IsJson, IsJsonLine, refusal_output}
use Rattle.bgp_json.specs.declared.output_form.OutputForm.{OutputForm}
use Rattle.bgp_tool.specs.declared.session_options.SessionOptions.{SessionOptions}

-- The lines of all records of the session in a capture, one after another, numbered from 1. It
-- shows no packets.
abbrev pub AreCaptureLines : SessionOptions → List ShownRecord → List ℕ → Type 0
AreCaptureLines options records text =
    AreRecordOutputs options.form options.session nothing_before 1
    (map (placed_as None) records) text

-- the exit status of a capture that is refused
abbrev pub status_by : FaultKind → ℕ
status_by kinds.Truncated = 3
status_by kinds.TooLong = 3
status_by kinds.Body = 3
status_by kinds.BadState = 3
status_by kinds.NotAMessage = 3
status_by kinds.TimeBack = 3
status_by kinds.RouteRefresh = 3
status_by kinds.AddPath = 3
status_by kinds.Device = 5
status_by kinds.Memory = 4

-- the exit status and the last line, by the fault, if there is one
abbrev pub status_for : {X : Type 0} → Result X CaptureFault → ℕ
status_for (Ok x) = 0
status_for (Err fault) = status_by fault.kind

abbrev pub last_line_in : {X : Type 0} → OutputForm → Result X CaptureFault → List ℕ
last_line_in form (Ok x) = []
last_line_in form (Err fault) = refusal_output form fault

-- How the octets end, which are pieces and a rest: at the end of the source, and the rest is empty;
-- or at a fault, whose offset is the rest's. It is one of the octets, whatever follows them; or a
-- device's, and the rest is a record that has begun; or one for memory, and nothing was given.
module _ {R : Type 0} (has_ended : R → Bool) (session : Session) where
  abbrev pub EndsAt : R → List Piece → List ℕ → {X : Type 0} → Result X CaptureFault → Type 0
  EndsAt source pieces rest (Ok x) = (rest ≡ []) × IsTrue (has_ended source)
  EndsAt source pieces rest (Err fault) =
      (fault.offset ≡ length (joined pieces))
      × (IsRefused session (last_of None pieces) rest (has_ended source) fault.kind
      ⊎ ((fault.kind ≡ kinds.Device) × IsBegun session rest)
      ⊎ ((fault.kind ≡ kinds.Memory) × (pieces ≡ []) × (rest ≡ [])))

-- What was given is pieces of a capture and a rest, and the lines of the pieces' records were put.
-- They are read to where the octets end, or until the sink has failed.
pub record PutsRecords {R W X : Type 0} {sink : sinks.Ghosts W} (gives : R → R → List ℕ → Type 0)
    (has_ended : R → Bool) (options : SessionOptions) (source source' : R)
    (lines lines' : Lines W sink) (reader' : ReaderState) (answer : Result X CaptureFault)
    : Type 0 where
  pub pieces : List Piece
  pub rest : List ℕ
  pub text : List ℕ
  pub knows : Knows reader' pieces
  pub gave : gives source source' (joined pieces ++ rest)
  pub each : ArePieces options.session None pieces
  pub ends : EndsAt has_ended options.session source' pieces rest answer
      ⊎ (IsOk answer × IsTrue lines'.outlet.has_failed)
  pub are_lines : AreCaptureLines options (records_of pieces) text
  pub wrote : Writes lines lines' text

-- What was given is pieces of a capture, and memory was refused for the line of the last one's
-- record, in JSON. The lines before it were put.
pub record LacksLine {R W : Type 0} {sink : sinks.Ghosts W} (gives : R → R → List ℕ → Type 0)
    (options : SessionOptions) (source source' : R) (lines lines' : Lines W sink)
    (reader' : ReaderState) : Type 0 where
  pub pieces : List Piece
  pub text : List ℕ
  pub line : List ℕ
  pub knows : Knows reader' pieces
  pub gave : gives source source' (joined pieces)
  pub each : ArePieces options.session None pieces
  pub json : IsJson options.form
  pub is_line : IsJsonLine line
  pub are_lines : AreCaptureLines options (records_of pieces) (text ++ line)
  pub wrote : Writes lines lines' text

-- The lines of records were put: what the octets are, unless memory was refused for a line.
abbrev pub PutsLines : {R W X E : Type 0} {sink : sinks.Ghosts W} → (R → R → List ℕ → Type 0)
    → (R → Bool) → SessionOptions → R → R → Lines W sink → Lines W sink → ReaderState
    → Result (Result X CaptureFault) E → Type 0
PutsLines gives has_ended options source source' lines lines' reader' read =
    MatchResult read
    (λ answer. PutsRecords gives has_ended options source source' lines lines' reader' answer)
    (λ _. LacksLine gives options source source' lines lines' reader')

-- a source's failures more, and the fault of a capture, by what was read of it
abbrev pub failures_in : {X E : Type 0} → Result (Result X CaptureFault) E → ℕ
failures_in (Ok answer) = failures_of answer
failures_in (Err refused) = 0

abbrev pub fault_of : {X E : Type 0} → Result (Result X CaptureFault) E → Option CaptureFault
fault_of (Ok answer) = fault_in answer
fault_of (Err refused) = None

-- What was given is pieces of a capture and a rest, to where the octets end, or until the sink has
-- failed or memory was refused for a line. What was written is a beginning of the lines of the
-- pieces' records and of the last line. It is all of it, and the status is that of how the octets
-- end; or the sink failed, and the status is 5; or in JSON it is all but one line, for which memory
-- was refused, and the status is 4.
pub record DecodesCapture {R W : Type 0} (gives : R → R → List ℕ → Type 0) (has_ended : R → Bool)
    (takes : W → W → List ℕ → Type 0) (source_failures : R → ℕ) (failures : W → ℕ)
    (options : SessionOptions) (source source' : R) (sink sink' : W) (reader' : ReaderState)
    (status : ℕ) : Type 0 where
  pub pieces : List Piece
  pub rest : List ℕ
  pub knows : Knows reader' pieces
  pub answer : Result (Unit {0}) CaptureFault
  pub gave : gives source source' (joined pieces ++ rest)
  pub each : ArePieces options.session None pieces
  pub ends : EndsAt has_ended options.session source' pieces rest answer
      ⊎ (IsOk answer × (failures sink' ≡ failures sink + 1))
      ⊎ (IsOk answer × (status ≡ 4) × IsJson options.form)
  -- one failure of the source more, where that is the fault
  pub counted : source_failures source' ≡ source_failures source + failures_of answer
  pub lines : List ℕ
  pub are_lines : AreCaptureLines options (records_of pieces) lines
  pub written : List ℕ
  pub left : List ℕ
  pub took : takes sink sink' written
  pub begun : lines ++ last_line_in options.form answer ≡ written ++ left
  pub all : ((failures sink' ≡ failures sink) × (left ≡ []) × (status ≡ status_for answer))
      ⊎ ((failures sink' ≡ failures sink + 1) × (status ≡ 5))
      ⊎ ((failures sink' ≡ failures sink) × (status ≡ 4) × IsJson options.form × IsJsonLine left)

-- and this is why the octets are refused, if they are
abbrev pub DecodesWith : {R W : Type 0} → (R → R → List ℕ → Type 0) → (R → Bool)
    → (W → W → List ℕ → Type 0) → (R → ℕ) → (W → ℕ) → SessionOptions → R → R → W → W → ReaderState
    → ℕ → Option CaptureFault → Type 0
DecodesWith gives has_ended takes source_failures failures options source source' sink sink'
    reader' status refused =
    (decodes : DecodesCapture gives has_ended takes source_failures failures options source source'
    sink sink' reader' status) × (refused ≡ fault_in decodes.answer)

-- A text was put, and all of the text handed over; the status is 5 where the sink failed.
pub record HandsOn {W : Type 0} {sink : sinks.Ghosts W} (lines lines' : Lines W sink)
    (text : List ℕ) (wanted status : ℕ) : Type 0 where
  pub wrote : Writes lines lines' text
  pub handed_over : lines'.held.items ≡ []
  pub told : (IsFalse lines'.outlet.has_failed × (status ≡ wanted))
      ⊎ (IsTrue lines'.outlet.has_failed × (status ≡ 5))

module _ {W : Type 0} {sink : sinks.Ghosts W} (form : OutputForm) (lines lines' : Lines W sink)
  where
    -- the last line was put, or memory was refused for it
    abbrev pub Finishes : {X : Type 0} → Result X CaptureFault → ℕ → Type 0
    Finishes answer status =
        HandsOn lines lines' (last_line_in form answer) (status_for answer) status
        ⊎ (IsJson form × IsJsonLine (last_line_in form answer) × HandsOn lines lines' [] 4 status)

    -- or no more was put, since memory was refused for a line before it
    abbrev pub FinishesLines : {X E : Type 0} → Result (Result X CaptureFault) E → ℕ → Type 0
    FinishesLines read status =
        MatchResult read (λ answer. Finishes answer status) (λ _. HandsOn lines lines' [] 4 status)
