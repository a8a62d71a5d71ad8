-- What the verdict on a stretch that is left is worth.
use Rattle.std.specs.Prelude.{◌≡◌, ◌≢◌, ◌↔◌, ◌++◌, ℕ, List, [], ◌∷◌, Option, Some}
use Rattle.bgp_prefix.specs.Shown.{ShownRecord}
use Rattle.bgp_prefix.specs.declared.session.Session.{Session}
use Rattle.bgp_open.specs.declared.config.Config.{Config}
use Rattle.bgp_machine.specs.Run.{Begins}
use Rattle.bgp_judge.specs.Verdict.{No, Unfinished, VerdictValue, Yes}
use Rattle.bgp_check.specs.Answered.{JudgedAs}
use Rattle.bgp_check.specs.Checked.{IsYes}
use Rattle.bgp_check.specs.Configurations.{IsOf}
use Rattle.bgp_check.specs.Cut.{IsWholeStretch}
use Rattle.bgp_parts.specs.Opens.{HasOwnOpen}
use Rattle.bgp_check.specs.Over.{HasVerdictOver, ListsEndsOver}
use Rattle.bgp_check.specs.Stretch.{LeavesIdle}
use Rattle.bgp_check.specs.WidestMade.{IsFaultless}
use Rattle.bgp_check.specs.declared.peer_as.PeerAs.{PeerAs}
use Rattle.bgp_check.specs.StretchTold.{IsStretchTold, ToldValue, with_leaving}

-- It is one of these configurations, and has a run that shows the records and then this one.
abbrev pub LeavesSo : (Config → Type 0) → List ShownRecord → ShownRecord → Config → Type 0
LeavesSo Is records leaving config = Is config × Begins config (records ++ leaving ∷ [])

-- This verdict holds over the configurations of records that this one leaves.
abbrev pub HasVerdictWhereLeft
    : (Config → Type 0) → List ShownRecord → ShownRecord → VerdictValue → Type 0
-- under some of them a run shows the records and leaves them so; under these the records can have
-- just these ends
HasVerdictWhereLeft Is records leaving (Yes ends) =
    (ends ≢ []) × ListsEndsOver (LeavesSo Is records leaving) records ends
-- so many records begin a run under one of them, and with one more none under any: with the one
-- that leaves the records, where these are that many
HasVerdictWhereLeft Is records leaving (No count) =
    HasVerdictOver Is (records ++ leaving ∷ []) (No count)
-- what is left isn't unfinished
HasVerdictWhereLeft Is records leaving Unfinished = ⊥

-- ---- the laws

-- The verdict that is answered of a stretch that is left is the one over all configurations under
-- which the OPEN that was sent is the local system's own, where that has no own fault.
abbrev pub LeftVerdictIsOverAll : Type 0
LeftVerdictIsOverAll =
    (session : Session) (stretch : List ShownRecord) (all : ℕ) (leaving : ShownRecord)
    (told : ToldValue) (number : Option ℕ) (peer : PeerAs) (under : Config)
    (verdict : VerdictValue) (own : Option (List ℕ))
    (is : IsStretchTold session stretch all (Some leaving) told)
    → IsWholeStretch stretch → LeavesIdle leaving
    → told.answer ≡ JudgedAs number peer under verdict
    → HasOwnOpen (with_leaving is.left.records (Some leaving)) own → IsFaultless own
    → HasVerdictWhereLeft (IsOf session own) is.left.records leaving verdict

-- So it is yes if and only if some of them has a run that shows the stretch and its leaving.
abbrev pub LeftIsYesWhereARunLeaves : Type 0
LeftIsYesWhereARunLeaves =
    (session : Session) (stretch : List ShownRecord) (all : ℕ) (leaving : ShownRecord)
    (told : ToldValue) (number : Option ℕ) (peer : PeerAs) (under : Config)
    (verdict : VerdictValue) (own : Option (List ℕ))
    (is : IsStretchTold session stretch all (Some leaving) told)
    → IsWholeStretch stretch → LeavesIdle leaving
    → told.answer ≡ JudgedAs number peer under verdict
    → HasOwnOpen (with_leaving is.left.records (Some leaving)) own → IsFaultless own
    → IsYes verdict
    ↔ ((config : Config) × LeavesSo (IsOf session own) is.left.records leaving config)
