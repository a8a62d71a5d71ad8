-- What judging a recording reads, writes and answers.
use Rattle.std.specs.Prelude.{◌≡◌, ◌+◌, ◌++◌, ◌⊎◌, ℕ, Bool, List, [], ◌∷◌, Option, None, Some}
use Rattle.std.specs.Prelude.{length}
use Rattle.packets.specs.Packet.{Recorded}
use Rattle.streams.specs.Passed.{Segment}
use Rattle.bgp_open.specs.declared.config.Config.{Config}
use Rattle.mrt.specs.declared.sink.Sink as sinks
use Rattle.bgp_verdict_lines.specs.Lines.{PutsLines}
use Rattle.bgp_verdict_lines.specs.Printed.{IsWrittenIn}
use Rattle.bgp_verdict_lines.specs.declared.form.VerdictForm.{VerdictForm}
use Rattle.bgp_verdict_lines.specs.declared.verdict_lines.VerdictLines.{VerdictLines}
use Rattle.bgp_explain.specs.declared.report.Report.{Report}
use Rattle.bgp_import.specs.Gathers.{HasReadAll, IsStopped, cut_short_by, failures_by}
use Rattle.bgp_import.specs.Refusals.{refusal_line}
use Rattle.bgp_import.specs.declared.cut_short.CutShort.{CutShort}
use Rattle.bgp_import.specs.declared.importing.Import.{Import}
use Rattle.bgp_import.specs.declared.refusal.Refusal.{Refusal}
use Rattle.bgp_recording_tool.specs.declared.judging.Judged.{Judged}
use Rattle.bgp_import.specs.declared.options.RecordingOptions.{RecordingOptions}
use Rattle.bgp_recording_tool.specs.declared.remark.Remark.{Remark}
use Rattle.bgp_recording_tool.specs.Connections.{AllAreTold}
use Rattle.bgp_recording_tool.specs.Options.{IsMisfit, import_of}
use Rattle.bgp_recording_tool.specs.Remarks.{IsHelp}
use Rattle.bgp_recording_tool.specs.Told.{refused_status}

-- A text was put, its exit status is answered, and this was added to what is told of connections;
-- and something holds of the three.
pub record Puts {X T : Type 0} {sink : sinks.Ghosts T} (lines lines' : VerdictLines X T sink)
    (remarks remarks' : List Remark) (status : ℕ) (Holds : List ℕ → ℕ → List Remark → Type 0)
    : Type 0 where
  pub text : List ℕ
  pub own : List Remark
  pub wrote : PutsLines lines lines' text
  pub added : remarks' ≡ remarks ++ own
  pub holds : Holds text status own

-- The source goes from `old` to `new`. The members are the source's.
module _ {S : Type 0} (gives : S → S → List ℕ → Type 0) (has_ended : S → Bool) (failures : S → ℕ)
    (config : Config) (report : Report) (wanted : Import) (old new : S)
    (cut_short : Option CutShort) where
  -- it was read to its end, or to where it was cut short, and this is told of the session's
  -- connections
  pub record TellsConnections (text : List ℕ) (status : ℕ) (remarks : List Remark) : Type 0 where
    pub octets : List ℕ
    pub packets : List Recorded
    pub segments : List Segment
    pub cut : Bool
    pub all : HasReadAll gives has_ended wanted.selection old new octets packets segments cut
    pub is_cut : cut_short ≡ cut_short_by cut (length packets)
    pub told : AllAreTold config report wanted packets segments text status remarks
    pub counted : failures new ≡ failures old

  -- or it is refused
  pub record TellsRefusal (text : List ℕ) (status : ℕ) (remarks : List Remark) : Type 0 where
    pub refusal : Refusal
    pub stopped : IsStopped gives has_ended wanted.selection old new refusal
    pub prints : text ≡ refusal_line refusal
    pub tells : status ≡ refused_status refusal
    pub helps : IsHelp None refusal remarks
    pub uncut : cut_short ≡ None
    -- one failure more, where a device failed
    pub counted : failures new ≡ failures old + failures_by refusal

  abbrev pub TellsRecording : List ℕ → ℕ → List Remark → Type 0
  TellsRecording text status remarks =
      TellsConnections text status remarks ⊎ TellsRefusal text status remarks

-- This is told of a recording. In this form all of its text was written, if the sink didn't fail,
-- and then the status is its own; and else a beginning, and the status is 5.
pub record JudgesMeant {S T : Type 0} (gives : S → S → List ℕ → Type 0) (has_ended : S → Bool)
    (takes : T → T → List ℕ → Type 0) (source_failures : S → ℕ) (failures : T → ℕ)
    (config : Config) (report : Report) (form : VerdictForm) (wanted : Import)
    (source source' : S) (sink sink' : T) (status : ℕ) (cut_short : Option CutShort) (remarks : List Remark) : Type 0 where
  pub text : List ℕ
  pub code : ℕ
  pub told : TellsRecording gives has_ended source_failures config report wanted source source'
      cut_short text code remarks
  pub written : IsWrittenIn form takes failures text code sink sink' status

-- No recording can be meant: nothing is read and nothing written, and it is told why, if there is
-- memory for that.
pub record IsUnmeant {S T : Type 0} (wanted : Import) (source source' : S) (sink sink' : T)
    (status : ℕ) (cut_short : Option CutShort) (remarks : List Remark) : Type 0 where
  pub remark : Remark
  pub misfit : IsMisfit wanted (Some remark)
  pub unread : source' ≡ source
  pub unwritten : sink' ≡ sink
  pub uncut : cut_short ≡ None
  pub tells : ((status ≡ 64) × (remarks ≡ remark ∷ [])) ⊎ ((status ≡ 4) × (remarks ≡ []))

abbrev pub JudgesRecording : {S T X : Type 0} → (S → S → List ℕ → Type 0) → (S → Bool)
    → (T → T → List ℕ → Type 0) → (S → ℕ) → (T → ℕ) → Config → Report → VerdictForm
    → RecordingOptions → S → S → T → T → Judged X → Type 0
JudgesRecording gives has_ended takes source_failures failures config report form options
    source source' sink sink' judged =
    let wanted = import_of config.parts.session options in
    IsUnmeant wanted source source' sink sink' judged.status judged.cut_short judged.remarks.items
    ⊎ (IsMisfit wanted None
    × JudgesMeant gives has_ended takes source_failures failures config report form wanted
    source source' sink sink' judged.status judged.cut_short judged.remarks.items)
