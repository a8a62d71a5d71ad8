-- Judging the capture of what a speaker's core shows: the verdict is yes, with the core's end among
-- the ends.
use Rattle.std.specs.Prelude.{◌≡◌, ◌<◌, ◌^◌, ℕ, List}
use Rattle.std.specs.List.{AllByRecursion}
use Rattle.bgp_prefix.specs.Shown.{ShownRecord}
use Rattle.bgp_open.specs.declared.config.Config.{Config}
use Rattle.bgp_machine.specs.Lists.{Has}
use Rattle.bgp_machine.specs.Run.{End, end_of}
use Rattle.mrt.specs.Capture.{Spells, IsFirstFault}
use Rattle.mrt.specs.Written.{capture_octets}
use Rattle.mrt.specs.declared.fault.FaultKind.{FaultKind}
use Rattle.bgp_judge.specs.Ends.{ListsEnds}
use Rattle.bgp_speaker.specs.declared.speaker.Speaker.{Speaker}
use Rattle.bgp_speaker.specs.Choosing.{Drives}
use Rattle.bgp_speaker.specs.Core.{CoreState, InputValue, fresh_core}
use Rattle.bgp_speaker.specs.Written.{TakesAll}
use Rattle.bgp_tool.specs.Judging.{SaysVerdict}
use Rattle.bgp_tool.specs.VerdictText.{yes_text}

-- The octets are what is written of all that a fresh core shows on these inputs, one after another,
-- with some AS numbers; it ends so. The seconds fit their field, and captures of the configured
-- session can have it all.
pub record IsCaptureOfDrive (speaker : Speaker) (inputs : List (ℕ × InputValue)) (e : CoreState)
    (octets : List ℕ) : Type 0 where
  pub records : List ShownRecord
  pub drives : Drives (fresh_core speaker) inputs records e
  pub seconds : AllByRecursion (λ x. x.0 < 2 ^ 32) inputs
  pub takes : TakesAll speaker.config.parts.session
  pub peer_as : ℕ
  pub local_as : ℕ
  pub written : octets ≡ capture_octets speaker.config.parts.session peer_as local_as records

-- the verdict is yes, by its text and its exit status, and this is one of the ends
pub record IsYesWith (config : Config) (records : List ShownRecord) (end : End) (text : List ℕ)
    (status : ℕ) : Type 0 where
  pub ends : List End
  pub lists : ListsEnds config records ends
  pub among : Has (λ x. x ≡ end) ends
  pub prints : text ≡ yes_text ends
  pub tells : status ≡ 0

-- ---- the law

-- the octets spell the records of the drive
abbrev pub DrivesSpellTheirRecords : Type 0
DrivesSpellTheirRecords =
    (speaker : Speaker) (inputs : List (ℕ × InputValue)) (e : CoreState) (octets : List ℕ)
    (capture : IsCaptureOfDrive speaker inputs e octets)
    → Spells speaker.config.parts.session octets capture.records

-- and have no fault, for which they would be refused
abbrev pub DrivesAreNotRefused : Type 0
DrivesAreNotRefused =
    (speaker : Speaker) (inputs : List (ℕ × InputValue)) (e : CoreState) (octets : List ℕ)
    (records : List ShownRecord) (kind : FaultKind) (offset : ℕ)
    → IsCaptureOfDrive speaker inputs e octets
    → ¬ IsFirstFault speaker.config.parts.session octets records kind offset

-- whatever verdict holds of what they spell is yes, and where the core ended is one of the ends
abbrev pub DrivesAreJudgedYes : Type 0
DrivesAreJudgedYes =
    (speaker : Speaker) (inputs : List (ℕ × InputValue)) (e : CoreState) (octets : List ℕ)
    (records : List ShownRecord) (text : List ℕ) (status : ℕ)
    → IsCaptureOfDrive speaker inputs e octets
    → Spells speaker.config.parts.session octets records
    → SaysVerdict speaker.config records text status
    → IsYesWith speaker.config records (end_of e.moment.session) text status
