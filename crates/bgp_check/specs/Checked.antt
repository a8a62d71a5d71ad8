-- What is answered of an end's records: the verdict, and under which of the two widest
-- configurations it is told.
use Rattle.std.specs.Prelude.{◌≡◌, Bool, true, false, nat_lt, ℕ, List, Option, None, Some}
use Rattle.bgp_prefix.specs.Shown.{ShownRecord}
use Rattle.bgp_prefix.specs.declared.session.Session.{Session}
use Rattle.bgp_open.specs.declared.config.Config.{Config}
use Rattle.bgp_judge.specs.Verdict.{HasVerdict, No, Unfinished, VerdictValue, Yes}
use Rattle.bgp_check.specs.declared.widest.Widest.{Widest}
use Rattle.bgp_check.specs.Configurations.{IsOf}
use Rattle.bgp_parts.specs.Opens.{HasOwnOpen, HasPeersOpen}
use Rattle.bgp_check.specs.Over.{HasVerdictOver}
use Rattle.bgp_check.specs.Stretch.{IsStretch}
use Rattle.bgp_check.specs.WidestMade.{configurations_of}
use Rattle.bgp_check.specs.Without.{AreWidest}

-- of two verdicts the other is told: told is the first yes; else the first that is unfinished; else
-- the no that stands later, of equals the first
abbrev pub tells_other : VerdictValue → VerdictValue → Bool
tells_other (Yes ends) other = false
tells_other one (Yes ends) = true
tells_other Unfinished other = false
tells_other one Unfinished = true
tells_other (No count) (No other) = nat_lt count other

abbrev pub IsYes : VerdictValue → Type 0
IsYes (Yes ends) = Unit {0}
IsYes verdict = ⊥

-- the verdict is told under the one configuration: beside a yes the other isn't asked
abbrev pub IsToldUnder : Config → Config → List ShownRecord → VerdictValue → Type 0
IsToldUnder wanting another records (Yes ends) = HasVerdict wanting records (Yes ends)
IsToldUnder wanting another records verdict =
    HasVerdict wanting records verdict
    × ((other : VerdictValue) × HasVerdict another records other
    × (tells_other verdict other ≡ false))

-- this verdict is told under the configuration that wants the AS number of the peer's OPEN, or
-- under the other
abbrev pub IsToldBy : Option Config → Config → List ShownRecord → Bool → VerdictValue → Type 0
IsToldBy (Some wanting) another records true verdict =
    IsToldUnder wanting another records verdict
IsToldBy None another records true verdict = ⊥
IsToldBy (Some wanting) another records false verdict =
    HasVerdict another records verdict
    × ((one : VerdictValue) × HasVerdict wanting records one × (tells_other one verdict ≡ true))
IsToldBy None another records false verdict = HasVerdict another records verdict

abbrev pub IsTold : Widest → List ShownRecord → Bool → VerdictValue → Type 0
IsTold widest records wants verdict =
    IsToldBy widest.wanting widest.another records wants verdict

-- the one of the widest configurations under which it is told
abbrev pub IsUnder : Widest → Bool → Config → Type 0
IsUnder widest true config = widest.wanting ≡ Some config
IsUnder widest false config = widest.another ≡ config

-- ---- the law

-- what is told is the verdict over all configurations of the end
abbrev pub ToldIsOverAll : Type 0
ToldIsOverAll =
    (session : Session) (own peers : Option (List ℕ)) (widest : Widest)
    (records : List ShownRecord) (wants : Bool) (verdict : VerdictValue)
    → AreWidest session own peers (configurations_of widest) → IsStretch records
    → HasOwnOpen records own → HasPeersOpen records peers
    → IsTold widest records wants verdict → HasVerdictOver (IsOf session own) records verdict
