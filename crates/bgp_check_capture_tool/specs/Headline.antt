-- What a verdict on a stretch is worth that is told of a session in a capture.
use Rattle.std.specs.Prelude.{◌≡◌, ◌+◌, ℕ, List, Option, take}
use Rattle.mrt.specs.declared.fault.CaptureFault.{CaptureFault}
use Rattle.mrt_sessions.specs.File.{Located}
use Rattle.mrt_sessions.specs.declared.addresses.Addresses.{Addresses}
use Rattle.bgp_open.specs.declared.config.Config.{Config}
use Rattle.bgp_machine.specs.Lists.{Has}
use Rattle.bgp_machine.specs.Run.{Begins}
use Rattle.bgp_judge.specs.Verdict.{No, VerdictValue}
use Rattle.bgp_check.specs.Answered.{JudgedAs}
use Rattle.bgp_check.specs.Configurations.{IsOf}
use Rattle.bgp_check.specs.NotJudged.{SendsSome}
use Rattle.bgp_parts.specs.Opens.{HasOwnOpen}
use Rattle.bgp_check.specs.Stretch.{IsStretch}
use Rattle.bgp_check.specs.declared.peer_as.PeerAs.{PeerAs}
use Rattle.bgp_check_capture_tool.specs.Ends.{End, IsSessionTold, Stretch, session_of}
use Rattle.bgp_check_capture_tool.specs.StretchEnd.{StretchEnd}
use Rattle.bgp_check_capture_tool.specs.declared.telling.Telling.{Telling}

-- it is told of a stretch of the session that has these records in a file
pub record IsToldAmong (telling : Telling) (addresses : Addresses) (named : List Located)
    (end : StretchEnd) : Type 0 where
  pub ends : List End
  pub fault : Option CaptureFault
  pub told : IsSessionTold telling addresses named ends fault
  pub among : Has (λ one. one ≡ Stretch end) ends

-- A no after so many of the records that are judged says that no configuration under which the OPEN
-- that was sent is the local system's own has a run that shows these and one more.
abbrev pub NoConfigurationHasARun : Type 0
NoConfigurationHasARun =
    (telling : Telling) (addresses : Addresses) (named : List Located) (end : StretchEnd)
    (number : Option ℕ) (peer : PeerAs) (under : Config) (count : ℕ) (own : Option (List ℕ))
    (config : Config)
    → IsToldAmong telling addresses named end
    → end.told.answer ≡ JudgedAs number peer under (No count)
    → HasOwnOpen end.told.records own → IsOf (session_of addresses) own config
    → ¬ Begins config (take (count + 1) end.told.records)

-- A verdict is told only of records with a sent message, the first of which leaves Idle.
abbrev pub NothingIsVacuous : Type 0
NothingIsVacuous =
    (telling : Telling) (addresses : Addresses) (named : List Located) (end : StretchEnd)
    (number : Option ℕ) (peer : PeerAs) (under : Config) (verdict : VerdictValue)
    → IsToldAmong telling addresses named end
    → end.told.answer ≡ JudgedAs number peer under verdict
    → IsStretch end.told.records × SendsSome end.told.records
