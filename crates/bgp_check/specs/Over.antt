-- The verdict on a stretch over configurations: those of an OPEN, or of an end that sends none. It
-- is made of the verdicts under the widest ones.
use Rattle.std.specs.Prelude.{◌≡◌, ◌≢◌, ◌<◌, ◌+◌, ◌⊎◌, ℕ, List, [], ◌∷◌, Option, length, max}
use Rattle.std.specs.Prelude.{take}
use Rattle.bgp_prefix.specs.Shown.{ShownRecord}
use Rattle.bgp_prefix.specs.declared.session.Session.{Session}
use Rattle.bgp_open.specs.declared.config.Config.{Config}
use Rattle.bgp_machine.specs.Lists.{Has, Each, NoneTwice}
use Rattle.bgp_machine.specs.Run.{Begins, End, IsComplete}
use Rattle.bgp_judge.specs.Ends.{AreInOrder}
use Rattle.bgp_judge.specs.Verdict.{HasVerdict, No, Unfinished, VerdictValue, Yes}
use Rattle.bgp_check.specs.Configurations.{IsOf}
use Rattle.bgp_parts.specs.Opens.{HasOwnOpen, HasPeersOpen}
use Rattle.bgp_check.specs.Stretch.{IsStretch}
use Rattle.bgp_check.specs.Without.{AreWidest}

-- the ends that the records can have under some configuration of these: just those, and all of them
pub record ListsEndsOver (Is : Config → Type 0) (records : List ShownRecord) (ends : List End)
    : Type 0 where
  pub each : Each (λ e. (config : Config) × Is config × IsComplete config records e) ends
  pub every : (config : Config) (e : End) → Is config → IsComplete config records e
      → Has (λ x. x ≡ e) ends
  pub none_twice : NoneTwice ends
  pub in_order : AreInOrder ends

-- this verdict holds of the records over the configurations
abbrev pub HasVerdictOver : (Config → Type 0) → List ShownRecord → VerdictValue → Type 0
-- some run under one of them shows just the records; these are all the ends of such runs
HasVerdictOver Is records (Yes ends) = (ends ≢ []) × ListsEndsOver Is records ends
-- so many records begin a run under one of them, and with one more none under any
HasVerdictOver Is records (No count) =
    (count < length records)
    × ((config : Config) × Is config × Begins config (take count records))
    × ((config : Config) → Is config → ¬ Begins config (take (count + 1) records))
-- the records begin a run under one of them, and no run under any shows just them
HasVerdictOver Is records Unfinished =
    ((config : Config) × Is config × Begins config records)
    × ((config : Config) (e : End) → Is config → ¬ IsComplete config records e)

-- of two verdicts the first yes; else unfinished, if one is; else the no that stands later
abbrev pub verdict_of_both : VerdictValue → VerdictValue → VerdictValue
verdict_of_both (Yes ends) other = Yes ends
verdict_of_both one (Yes ends) = Yes ends
verdict_of_both Unfinished other = Unfinished
verdict_of_both one Unfinished = Unfinished
verdict_of_both (No count) (No other) = No (max count other)

-- ---- the laws

-- where there is one widest configuration, its verdict is that over all of them
abbrev pub VerdictOfOne : Type 0
VerdictOfOne =
    (session : Session) (own peers : Option (List ℕ)) (a : Config) (records : List ShownRecord)
    (one : VerdictValue) → AreWidest session own peers (a ∷ []) → IsStretch records
    → HasOwnOpen records own → HasPeersOpen records peers
    → HasVerdict a records one → HasVerdictOver (IsOf session own) records one

-- where there are two, a yes of one is the verdict over all: so the other needn't be asked
abbrev pub VerdictOfYes : Type 0
VerdictOfYes =
    (session : Session) (own peers : Option (List ℕ)) (a b : Config) (records : List ShownRecord)
    (ends : List End) → AreWidest session own peers (a ∷ b ∷ []) → IsStretch records
    → HasOwnOpen records own → HasPeersOpen records peers
    → HasVerdict a records (Yes ends) ⊎ HasVerdict b records (Yes ends)
    → HasVerdictOver (IsOf session own) records (Yes ends)

-- and both verdicts make it
abbrev pub VerdictOfBoth : Type 0
VerdictOfBoth =
    (session : Session) (own peers : Option (List ℕ)) (a b : Config) (records : List ShownRecord)
    (one other : VerdictValue) → AreWidest session own peers (a ∷ b ∷ []) → IsStretch records
    → HasOwnOpen records own → HasPeersOpen records peers
    → HasVerdict a records one → HasVerdict b records other
    → HasVerdictOver (IsOf session own) records (verdict_of_both one other)
