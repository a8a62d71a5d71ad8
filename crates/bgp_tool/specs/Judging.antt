-- What judging a capture reads, writes and answers.
use Rattle.std.specs.Prelude.{◌≡◌, ◌≢◌, ◌<◌, ◌+◌, ◌++◌, ◌⊎◌, ℕ, Bool, List, [], length, take}
use Rattle.std.specs.Prelude.{IsTrue, Option, None, Some}
use Rattle.std.proofs.Common.{inl, inr}
use Rattle.bgp_prefix.specs.Shown.{ShownRecord}
use Rattle.bgp_open.specs.declared.config.Config.{Config}
use Rattle.bgp_machine.specs.Run.{End, Begins, IsComplete}
use Rattle.mrt.specs.Capture.{Spells}
use Rattle.mrt.specs.Reader.{device_count}
use Rattle.mrt.specs.declared.fault.CaptureFault.{CaptureFault}
use Rattle.bgp_judge.specs.Ends.{ListsEnds}
use Rattle.bgp_judge.specs.Judging.{IsRefusedFor, HasFailed, LacksMemory}
use Rattle.bgp_text.specs.Capture.{refused_line}
use Rattle.bgp_tool.specs.VerdictText.{yes_text, no_line, unfinished_line}
use Rattle.bgp_tool.specs.CaptureDecoding.{status_by}

-- The verdict on a session's records, by its text and its exit status: just one of three.
module _ (config : Config) (records : List ShownRecord) (text : List ℕ) (status : ℕ) where
  -- some run of the session machine shows just the records, and these are all ends of such runs
  pub record SaysYes : Type 0 where
    pub ends : List End
    pub some : ends ≢ []
    pub lists : ListsEnds config records ends
    pub prints : text ≡ yes_text ends
    pub tells : status ≡ 0

  -- so many records begin a run, and with the next one they begin none
  pub record SaysNo : Type 0 where
    pub count : ℕ
    pub within : count < length records
    pub before : Begins config (take count records)
    pub behind : ¬ Begins config (take (count + 1) records)
    pub prints : text ≡ no_line count
    pub tells : status ≡ 1

  -- the records begin a run, and no run shows just them
  pub record SaysUnfinished : Type 0 where
    pub begins : Begins config records
    pub none : (e : End) → ¬ IsComplete config records e
    pub prints : text ≡ unfinished_line
    pub tells : status ≡ 2

  abbrev pub SaysVerdict : Type 0
  SaysVerdict = SaysYes ⊎ SaysNo ⊎ SaysUnfinished

-- What is told of the octets that a source gave from one state to another.
module _ {R : Type 0} (gives : R → R → List ℕ → Type 0) (has_ended : R → Bool)
    (failures : R → ℕ) (config : Config) (source source' : R) where
  -- the source was read to its end, its octets spell records, and this is the verdict on them
  pub record TellsVerdict (text : List ℕ) (status : ℕ) : Type 0 where
    pub octets : List ℕ
    pub records : List ShownRecord
    pub gave : gives source source' octets
    pub ended : IsTrue (has_ended source')
    pub spells : Spells config.parts.session octets records
    pub says : SaysVerdict config records text status
    pub counted : failures source' ≡ failures source

  -- The octets have this first fault; or the source failed, or memory was refused, at this place:
  -- at a record only where the tracker may lack it.
  pub record TellsFault (may_lack : Config → List ShownRecord → ShownRecord → Type 0)
      (text : List ℕ) (status : ℕ) : Type 0 where
    pub fault : CaptureFault
    pub why : IsRefusedFor gives has_ended config source source' fault
        ⊎ HasFailed gives has_ended config source source' fault
        ⊎ LacksMemory gives has_ended config source source' may_lack fault
    pub prints : text ≡ refused_line fault.kind fault.offset
    pub tells : status ≡ status_by fault.kind
    -- one failure more, where that is the fault
    pub counted : failures source' ≡ failures source + device_count fault.kind

-- the fault that is told, if it isn't a verdict
abbrev pub fault_answered : {R : Type 0} {gives : R → R → List ℕ → Type 0} {has_ended : R → Bool}
    {failures : R → ℕ} {config : Config} {source source' : R}
    {may_lack : Config → List ShownRecord → ShownRecord → Type 0} {text : List ℕ} {status : ℕ}
    → TellsVerdict gives has_ended failures config source source' text status
    ⊎ TellsFault gives has_ended failures config source source' may_lack text status
    → Option CaptureFault
fault_answered (inl tells) = None
fault_answered (inr tells) = Some tells.fault

-- The verdict or the fault is told; all of its text was written, if the sink didn't fail, and then
-- the status is its own; and else a beginning, and the status is 5.
pub record JudgesCapture {R W : Type 0} (gives : R → R → List ℕ → Type 0) (has_ended : R → Bool)
    (takes : W → W → List ℕ → Type 0) (source_failures : R → ℕ) (failures : W → ℕ)
    (config : Config) (source source' : R)
    (may_lack : Config → List ShownRecord → ShownRecord → Type 0) (sink sink' : W) (status : ℕ)
    : Type 0 where
  pub text : List ℕ
  pub code : ℕ
  pub answer : TellsVerdict gives has_ended source_failures config source source' text code
      ⊎ TellsFault gives has_ended source_failures config source source' may_lack text code
  pub written : List ℕ
  pub left : List ℕ
  pub took : takes sink sink' written
  pub begun : text ≡ written ++ left
  pub all : ((failures sink' ≡ failures sink) × (left ≡ []) × (status ≡ code))
      ⊎ ((failures sink' ≡ failures sink + 1) × (status ≡ 5))

-- ---- the law

-- The verdict on a capture has one text and one exit status.
abbrev pub HasOneVerdict : Type 0
HasOneVerdict =
    (config : Config) (octets : List ℕ) (records also : List ShownRecord) (text other : List ℕ)
    (status code : ℕ)
    → Spells config.parts.session octets records → SaysVerdict config records text status
    → Spells config.parts.session octets also → SaysVerdict config also other code
    → (text ≡ other) × (status ≡ code)

-- It isn't so that no verdict holds of records.
abbrev pub NeverNone : Type 0
NeverNone =
    (config : Config) (records : List ShownRecord)
    → ¬ ((text : List ℕ) (status : ℕ) → ¬ SaysVerdict config records text status)
