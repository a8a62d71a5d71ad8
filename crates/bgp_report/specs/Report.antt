-- What a report says of a file, and how it is written.
use Rattle.std.specs.Prelude.{◌≡◌, ◌++◌, ℕ, Bool, true, List, [], Option}
use Rattle.mrt.specs.declared.sink.Sink as sinks
use Rattle.bgp_text.specs.Lines.{Writes}
use Rattle.bgp_text.specs.declared.lines.Lines.{Lines}
use Rattle.bgp_tool.specs.Answer.{IsWritten}
use Rattle.bgp_html.specs.Pieces.{Piece, printed_of}
use Rattle.bgp_html.specs.Report.{report_html}
use Rattle.bgp_import.specs.declared.cut_short.CutShort.{CutShort}
use Rattle.bgp_import.specs.declared.refusal.Refusal.{Refusal}
use Rattle.bgp_verdict_lines.specs.declared.form.VerdictForm.TheVariants.{Text}
use Rattle.mrt.specs.declared.fault.CaptureFault.{CaptureFault}
use Rattle.mrt_sessions.specs.declared.holding.Ending.{Ending}
use Rattle.bgp_check_capture_tool.specs.Checking.{ChecksCapture, ChecksHeld, told_marks}
use Rattle.bgp_check_capture_tool.specs.DeclaredSettings.TheVariants.{Always}
use Rattle.bgp_check_capture_tool.specs.declared.nothing.NothingJudged.{NothingJudged as NoneJudged}
use Rattle.bgp_check_tool.specs.Checking.{ChecksRecording}
use Rattle.bgp_check_tool.specs.Marks.{marks_of}
use Rattle.bgp_check_tool.specs.declared.nothing.NothingJudged.{NothingJudged}
use Rattle.bgp_check_tool.specs.declared.options.CheckOptions.{CheckOptions}
use Rattle.bgp_check_capture_tool.specs.declared.options.CaptureOptions.{CaptureOptions}
use Rattle.bgp_report.specs.Ladders.{AreBehind}
use Rattle.bgp_report.specs.Stretches.{AreStretchesBehind}

-- how a file is checked: as text, with routes and with the options of `bgp judge`
abbrev pub recording_options : CheckOptions → CheckOptions
recording_options options = record {
  port = options.port;
  within = options.within;
  printing = record { routes = true; quiet = options.printing.quiet };
  settings = Always;
  form = Text;
}

abbrev pub capture_options : CaptureOptions → CaptureOptions
capture_options options = record {
  printing = record { routes = true; quiet = options.printing.quiet };
  settings = Always;
  form = Text;
}

-- ---- what is printed, to a text in memory that takes all

abbrev pub TakesText : List ℕ → List ℕ → List ℕ → Type 0
TakesText old new octets = new ≡ old ++ octets

abbrev pub never_fails : List ℕ → ℕ
never_fails text = 0

-- ---- its report

-- A text is printed so, with this status, and these pieces stand after it, none of which is a line
-- that is printed. Their report, of a file with this name, was written: all of it, if the sink
-- didn't fail; and else a beginning, and the status is 5.
pub record Reports {W : Type 0} (takes : W → W → List ℕ → Type 0) (failures : W → ℕ)
    (name : List ℕ) (Prints : List ℕ → ℕ → List Piece → Type 0) (sink sink' : W) (status : ℕ)
    : Type 0 where
  pub text : List ℕ
  pub code : ℕ
  pub behind : List Piece
  pub prints : Prints text code behind
  pub no_lines : printed_of behind ≡ []
  pub written : IsWritten takes failures (report_html name text behind) code sink sink' status

-- Such a report was put: this text is printed so, with this status, and these pieces stand after it,
-- none of which is a line that is printed.
pub record PutsReport {W : Type 0} {sink : sinks.Ghosts W} (name : List ℕ)
    (Prints : List ℕ → ℕ → List Piece → Type 0) (code : ℕ) (old new : Lines W sink) : Type 0 where
  pub text : List ℕ
  pub behind : List Piece
  pub prints : Prints text code behind
  pub no_lines : printed_of behind ≡ []
  pub written : Writes old new (report_html name text behind)

-- whatever stands after the text
abbrev pub Beside : (List ℕ → ℕ → Type 0) → List ℕ → ℕ → List Piece → Type 0
Beside Prints text code behind = Prints text code

-- What is printed of a recording, to a text in memory; after it the ladders of the ends that are
-- judged.
pub record ChecksWithLadders {S : Type 0} (gives : S → S → List ℕ → Type 0) (has_ended : S → Bool)
    (source_failures : S → ℕ) (options : CheckOptions) (source source' : S)
    (cut_short : Option CutShort) (firsts : List (Option Refusal)) (refusal : Option Refusal)
    (nothing : Option NothingJudged) (text : List ℕ) (code : ℕ) (behind : List Piece) : Type 0
  where
    pub checks : ChecksRecording gives has_ended TakesText source_failures never_fails options source
        source' [] text code cut_short firsts refusal nothing
    pub ladders : AreBehind options.port options.within checks.packets
        text (marks_of options.printing checks.blocks) behind

-- What is printed of a capture, to a text in memory; after it the ladders of the stretches that are
-- judged.
pub record ChecksWithStretches {S : Type 0} (gives : S → S → List ℕ → Type 0)
    (has_ended : S → Bool) (source_failures : S → ℕ) (options : CaptureOptions) (source source' : S)
    (firsts : List (Option CaptureFault)) (count : ℕ) (fault : Option CaptureFault)
    (nothing : Option NoneJudged) (text : List ℕ) (code : ℕ) (behind : List Piece) : Type 0
  where
    pub checks : ChecksCapture gives has_ended TakesText source_failures never_fails options source
        source' [] text code firsts count fault nothing
    pub ladders : AreStretchesBehind text (told_marks options checks.checks.tells) behind

-- the same of a capture that is held
pub record ChecksHeldWithStretches (options : CaptureOptions) (octets : List ℕ) (ending : Ending)
    (firsts : List (Option CaptureFault)) (count : ℕ) (fault : Option CaptureFault)
    (nothing : Option NoneJudged) (text : List ℕ) (code : ℕ) (behind : List Piece) : Type 0
  where
    pub checks : ChecksHeld TakesText never_fails options octets ending [] text code firsts count
        fault nothing
    pub ladders : AreStretchesBehind text (told_marks options checks.tells) behind
