-- What listing a capture writes and answers.
use Rattle.std.specs.Prelude.{◌≡◌, ◌⊎◌, ◌+◌, ◌++◌, ℕ, Bool, List, [], Option, None, Some, length}
use Rattle.std.specs.Prelude.{MatchResult, Result}
use Rattle.mrt.specs.declared.fault.CaptureFault.{CaptureFault}
use Rattle.mrt.specs.declared.fault.FaultKind.{FaultKind}
use Rattle.mrt.specs.declared.fault.FaultKind.TheVariants as kinds
use Rattle.mrt.specs.declared.sink.Sink as sinks
use Rattle.bgp_text.specs.Lines.{Writes}
use Rattle.bgp_text.specs.declared.lines.Lines.{Lines}
use Rattle.bgp_tool.specs.Answer.{IsWritten}
use Rattle.bgp_tool.specs.CaptureDecoding.{status_by}
use Rattle.mrt_sessions.specs.File.{HasRecords, Located, fault_by}
use Rattle.mrt_sessions.specs.Held.{IsHeld, failures_by}
use Rattle.mrt_sessions.specs.Sessions.{sessions_in}
use Rattle.mrt_sessions.specs.declared.holding.Ending.{Ending}
use Rattle.bgp_list.specs.Forms.{IsFaultInForm, AreSessionsInForm, fault_in, sessions_in_form}
use Rattle.bgp_list.specs.declared.form.ListForm.{ListForm}
use Rattle.bgp_list.specs.declared.form.ListForm.TheVariants.{Text}

-- that there was no memory for a list of the records
abbrev pub no_memory : CaptureFault
no_memory = record { kind = kinds.Memory; offset = 0 }

-- The lines of these sessions were put in this form, or none where there was no memory for them.
abbrev pub PutsSessions : {E T : Type 0} {sink : sinks.Ghosts T} → Result (Unit {0}) E → ListForm
    → Lines T sink → Lines T sink → List Located → Type 0
PutsSessions result form old new named =
    MatchResult result
    (λ _. Writes old new (sessions_in_form form named) × AreSessionsInForm form named)
    (λ _. Writes old new [])

-- The lines of the sessions whose records these octets have are told in this form, and then why the
-- file isn't read to its end, if it isn't.
pub record ListsIn (form : ListForm) (octets : List ℕ) (ending : Ending) (text : List ℕ)
    (fault : Option CaptureFault) : Type 0 where
  pub named : List Located
  pub offset : ℕ
  pub refusal : Option FaultKind
  pub has : HasRecords octets named offset refusal
  pub is_text : text ≡ sessions_in_form form named
  pub is_fault : fault ≡ fault_by ending refusal offset

abbrev pub ListsAll : List ℕ → Ending → List ℕ → Option CaptureFault → Type 0
ListsAll = ListsIn Text

-- So many sessions are told; or none, and only that there was no memory for a list of the records.
abbrev pub Lists : ListForm → List ℕ → Ending → List ℕ → ℕ → Option CaptureFault → Type 0
Lists form octets ending text count fault =
    ((all : ListsIn form octets ending text fault) × AreSessionsInForm form all.named
    × (count ≡ length (sessions_in all.named)))
    ⊎ ((text ≡ []) × (count ≡ 0) × (fault ≡ Some no_memory))

abbrev pub status_of : Option CaptureFault → ℕ
status_of None = 0
status_of (Some fault) = status_by fault.kind

-- A source is held, and its sessions are told, so many, and why it isn't read to its end. All of
-- that was written, if the sink didn't fail.
pub record ListsCapture {S T : Type 0} (gives : S → S → List ℕ → Type 0) (has_ended : S → Bool)
    (takes : T → T → List ℕ → Type 0) (source_failures : S → ℕ) (failures : T → ℕ)
    (form : ListForm) (source source' : S) (sink sink' : T) (status count : ℕ)
    (fault : Option CaptureFault) : Type 0 where
  pub octets : List ℕ
  pub ending : Ending
  pub held : IsHeld gives has_ended source source' octets ending
  pub counted : source_failures source' ≡ source_failures source + failures_by ending
  pub text : List ℕ
  pub lists : Lists form octets ending text count fault
  pub in_form : IsFaultInForm form fault
  pub written : IsWritten takes failures (text ++ fault_in form fault) (status_of fault) sink sink'
      status
