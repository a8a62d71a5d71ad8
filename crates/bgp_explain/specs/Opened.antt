-- What judging a capture that a reader gives leaves in a writer, with its reason or without, as far
-- as both tell their octets, and what is told of its end on standard error.
use Rattle.std.specs.Prelude.{◌↔◌, ◌≡◌, ◌<◌, ◌⊎◌, ◌++◌, ℕ, Bool, false, List}
use Rattle.std.specs.Prelude.{Option, None, Some, IsTrue, Result, Ok, Err}
use Rattle.std.proofs.Common.{inl, inr}
use Rattle.std.specs.Borrow.{Bor}
use Rattle.bgp_prefix.specs.Shown.{ShownRecord}
use Rattle.bgp_parts.specs.Confederations.{SomeShowConfederations}
use Rattle.bgp_open.specs.declared.config.Config.{Config}
use Rattle.mrt.specs.Capture.{joined, records_of}
use Rattle.mrt.specs.FromRead.{ReaderState, fresh_reader, Gives}
use Rattle.mrt.specs.FromWrite.{WriterState, Takes}
use Rattle.mrt.specs.ReadBy.{ReadBy}
use Rattle.mrt.specs.Reader as records
use Rattle.mrt.specs.declared.fault.CaptureFault.{CaptureFault}
use Rattle.bgp_judge.specs.Judging.{EndsBy}
use Rattle.bgp_tool.specs.declared.note.CaptureCommand.TheVariants.{Judge}
use Rattle.bgp_tool.specs.declared.opened.Outcome.{Outcome}
use Rattle.bgp_tool.specs.Judging.{TellsFault, fault_answered}
use Rattle.bgp_tool.specs.Judging as judging
use Rattle.bgp_tool.specs.OpenedCapture.{TellsCapture}
use Rattle.bgp_tool.specs.Seen.{lacking_in}
use Rattle.bgp_judge.specs.declared.verdict.Verdict.{Verdict}
use Rattle.bgp_verdict_lines.specs.Printed.{IsWrittenIn}
use Rattle.bgp_verdict_lines.specs.declared.form.VerdictForm.{VerdictForm}
use Rattle.bgp_explain.specs.declared.explained.Totals.{Totals}
use Rattle.bgp_explain.specs.declared.opened.JudgedCapture.{JudgedCapture}
use Rattle.bgp_explain.specs.declared.report.Report.{Report}
use Rattle.bgp_explain.specs.declared.report.Report.TheVariants.{VerdictAlone, WithReason}
use Rattle.bgp_explain.specs.declared.left_out.LeftOut.{LeftOut}
use Rattle.bgp_explain.specs.Capture.{ExplainsCapture, TellsExplained, TellsVerdict}
use Rattle.bgp_explain.specs.LeftOut.{IsLeftOutBy, nothing_left_out}

-- The verdict or the fault is told. In this form all of its text was written, if the sink didn't
-- fail, and then the status is its own; and else a beginning, and the status is 5.
pub record JudgesIn {R W : Type 0} (form : VerdictForm) (gives : R → R → List ℕ → Type 0)
    (has_ended : R → Bool) (takes : W → W → List ℕ → Type 0) (source_failures : R → ℕ)
    (failures : W → ℕ) (config : Config) (source source' : R)
    (may_lack : Config → List ShownRecord → ShownRecord → Type 0) (sink sink' : W) (status : ℕ)
    : Type 0 where
  pub text : List ℕ
  pub code : ℕ
  pub answer :
      judging.TellsVerdict gives has_ended source_failures config source source' text code
      ⊎ TellsFault gives has_ended source_failures config source source' may_lack text code
  pub wrote : IsWrittenIn form takes failures text code sink sink' status

-- From one state of a writer to another a reader's octets were judged, from a source that had given
-- nothing, and it is told how that ended.
pub record JudgesOpened {R W : Type 0} (form : VerdictForm) (remaining : R → Option (List ℕ))
    (contents : W → Option (List ℕ)) (config : Config)
    (may_lack : Config → List ShownRecord → ShownRecord → Type 0) (file : Bor (List ℕ)) (reader : R)
    (old new : WriterState W) (outcome : Outcome) : Type 0 where
  pub source : ReaderState R
  pub found : records.ReaderState
  -- what was found is that in all of the octets that were judged
  pub judged : ReadBy (Gives remaining) config.parts.session (fresh_reader reader) source found
      (λ gives. JudgesIn form gives (λ state. state.has_ended) (Takes contents)
      (λ state. state.failures) (λ state. state.failures) config (fresh_reader reader) source
      may_lack old new outcome.status)
  pub ends : EndsBy judged.pieces judged.rest (fault_answered judged.holds.answer)
  -- also where a yes says nothing of the local system
  pub told : TellsCapture Judge file source (joined judged.pieces ++ judged.rest) found
      (fault_answered judged.holds.answer) (lacking_in judged.holds.code (records_of judged.pieces))
      old new outcome.status outcome.note
  pub skipped : outcome.skipped ≡ Some found.skipped

-- ---- with the reason

-- the fault that is told before the end, if one is
abbrev pub fault_told : {R : Type 0} {gives : R → R → List ℕ → Type 0} {has_ended : R → Bool}
    {failures : R → ℕ} {config : Config} {source source' : R}
    {may_lack : Config → List ShownRecord → ShownRecord → Type 0} {text : List ℕ} {status : ℕ}
    → TellsExplained gives has_ended failures config source source' text status
    ⊎ TellsFault gives has_ended failures config source source' may_lack text status
    ⊎ TellsVerdict gives has_ended failures config source source' text status
    → Option CaptureFault
fault_told (inl tells) = None
fault_told (inr (inl tells)) = Some tells.fault
fault_told (inr (inr tells)) = None

-- From one state of a writer to another a reader's octets were judged and explained, from a source
-- that had given nothing, and it is told how that ended.
pub record ExplainsOpened {R W : Type 0} (form : VerdictForm) (remaining : R → Option (List ℕ))
    (contents : W → Option (List ℕ)) (config : Config)
    (may_lack : Config → List ShownRecord → ShownRecord → Type 0) (file : Bor (List ℕ)) (reader : R)
    (old new : WriterState W) (outcome : Outcome) : Type 0 where
  pub source : ReaderState R
  pub found : records.ReaderState
  -- what was found is that in all of the octets that were judged
  pub explained : ReadBy (Gives remaining) config.parts.session (fresh_reader reader) source found
      (λ gives. ExplainsCapture form gives (λ state. state.has_ended) (Takes contents)
      (λ state. state.failures) (λ state. state.failures) config (fresh_reader reader) source
      may_lack old new outcome.status)
  pub ends : EndsBy explained.pieces explained.rest (fault_told explained.holds.answer)
  -- also where a yes says nothing of the local system
  pub told : TellsCapture Judge file source (joined explained.pieces ++ explained.rest) found
      (fault_told explained.holds.answer)
      (lacking_in explained.holds.code (records_of explained.pieces))
      old new outcome.status outcome.note
  pub skipped : outcome.skipped ≡ Some found.skipped

-- ---- one of both

-- There is a verdict, whose status is one of three, and an UPDATE of a confederation is shown by
-- the records.
abbrev pub IsOfConfederation : ℕ → List ShownRecord → Type 0
IsOfConfederation code records = (code < 3) × SomeShowConfederations records

-- by what was found, if there is a verdict
abbrev pub confederation_in : {X : Type 0} → Result (Verdict X) CaptureFault → Totals → Bool
confederation_in (Ok verdict) totals = totals.confederation
confederation_in (Err fault) totals = false

-- what is left out of what both OPENs offer, by what was found, if there is a verdict
abbrev pub left_out_in : {X : Type 0} → Result (Verdict X) CaptureFault → Totals → LeftOut
left_out_in (Ok verdict) totals = totals.left_out
left_out_in (Err fault) totals = nothing_left_out

-- The reader's octets were judged, and explained if a reason is wanted; and it is told whether they
-- are of a confederation, and what was left out of what both OPENs offer.
module _ {R W : Type 0} (form : VerdictForm) (remaining : R → Option (List ℕ))
    (contents : W → Option (List ℕ)) (config : Config)
    (may_lack : Config → List ShownRecord → ShownRecord → Type 0)
    (file : Bor (List ℕ)) (reader : R) (old new : WriterState W) (judged : JudgedCapture) where
  pub record ReportsVerdict : Type 0 where
    pub opened : JudgesOpened form remaining contents config may_lack file reader old new
        judged.outcome
    pub confederation : IsTrue judged.confederation
        ↔ IsOfConfederation opened.judged.holds.code (records_of opened.judged.pieces)
    pub left_out : IsLeftOutBy config opened.judged.holds.code (records_of opened.judged.pieces)
        judged.left_out

  pub record ReportsReason : Type 0 where
    pub opened : ExplainsOpened form remaining contents config may_lack file reader old new
        judged.outcome
    pub confederation : IsTrue judged.confederation
        ↔ IsOfConfederation opened.explained.holds.code (records_of opened.explained.pieces)
    pub left_out : IsLeftOutBy config opened.explained.holds.code
        (records_of opened.explained.pieces) judged.left_out

  abbrev pub ReportsOpened : Report → Type 0
  ReportsOpened VerdictAlone = ReportsVerdict
  ReportsOpened WithReason = ReportsReason
