-- What is told of a stretch is worth what a verdict on records is.
use Rattle.std.specs.Prelude.{◌≡◌, ◌+◌, ℕ, List, Option, None, Some, take}
use Rattle.bgp_prefix.specs.Shown.{ShownRecord}
use Rattle.bgp_prefix.specs.declared.session.Session.{Session}
use Rattle.bgp_open.specs.declared.config.Config.{Config}
use Rattle.bgp_machine.specs.Run.{Begins}
use Rattle.bgp_judge.specs.Verdict.{No}
use Rattle.bgp_check.specs.Answered.{JudgedAs}
use Rattle.bgp_check.specs.Configurations.{IsOf}
use Rattle.bgp_check.specs.Cut.{IsWholeStretch}
use Rattle.bgp_parts.specs.Opens.{HasOwnOpen}
use Rattle.bgp_check.specs.Stretch.{IsStretch, LeavesIdle}
use Rattle.bgp_check.specs.declared.peer_as.PeerAs.{PeerAs}
use Rattle.bgp_check.specs.StretchTold.{IsStretchTold, ToldValue, with_leaving}

-- it is left by a record that leaves Idle, if at all
abbrev pub IsLeftSo : Option ShownRecord → Type 0
IsLeftSo None = Unit {0}
IsLeftSo (Some leaving) = LeavesIdle leaving

-- What is judged of a stretch is one, too: so a verdict on it is the one over all configurations
-- under which the OPEN that was sent is the local system's own.
abbrev pub JudgedAreStretches : Type 0
JudgedAreStretches =
    (session : Session) (stretch : List ShownRecord) (all : ℕ) (leaving : Option ShownRecord)
    (told : ToldValue) (is : IsStretchTold session stretch all leaving told)
    → IsWholeStretch stretch → IsLeftSo leaving → IsStretch (with_leaving is.left.records leaving)

-- A no after so many of them says that no configuration under which the OPEN is the system's own
-- has a run that shows these and one more.
abbrev pub NoConfigurationHasARun : Type 0
NoConfigurationHasARun =
    (session : Session) (stretch : List ShownRecord) (all : ℕ) (leaving : Option ShownRecord)
    (told : ToldValue) (number : Option ℕ) (peer : PeerAs) (under : Config) (count : ℕ)
    (own : Option (List ℕ)) (config : Config) (is : IsStretchTold session stretch all leaving told)
    → IsWholeStretch stretch → IsLeftSo leaving
    → told.answer ≡ JudgedAs number peer under (No count)
    → HasOwnOpen (with_leaving is.left.records leaving) own → IsOf session own config
    → ¬ Begins config (take (count + 1) (with_leaving is.left.records leaving))
