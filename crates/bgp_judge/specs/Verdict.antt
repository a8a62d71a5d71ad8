-- The verdict on a session's records: yes, no or unfinished. For each configuration and list of
-- records just one holds.
use Rattle.std.specs.Prelude.{◌≡◌, ◌≢◌, ◌<◌, ◌+◌, ℕ, List, [], length, take, map}
use Rattle.bgp_prefix.specs.Shown.{ShownRecord}
use Rattle.bgp_open.specs.declared.config.Config.{Config}
use Rattle.bgp_machine.specs.Run.{End, Begins, IsComplete}
use Rattle.bgp_judge.specs.declared.verdict.Verdict.{Verdict}
use Rattle.bgp_judge.specs.declared.verdict.Verdict.TheVariants as verdicts
use Rattle.bgp_judge.specs.Ends.{ListsEnds, end_value}

pub data VerdictValue : Type 0 where
  -- the ends
  Yes : List End → VerdictValue
  -- how many records come before the first impossible one
  No : ℕ → VerdictValue
  Unfinished : VerdictValue

-- this verdict holds of the records
abbrev pub HasVerdict : Config → List ShownRecord → VerdictValue → Type 0
-- some run shows just the records; these are all the ends of such runs
HasVerdict config records (Yes ends) = (ends ≢ []) × ListsEnds config records ends
-- so many records begin a run, and with one more none
HasVerdict config records (No count) =
    (count < length records) × Begins config (take count records)
    × (¬ Begins config (take (count + 1) records))
-- the records begin a run, and no run shows just them
HasVerdict config records Unfinished =
    Begins config records × ((e : End) → ¬ IsComplete config records e)

-- a verdict that is answered
abbrev pub verdict_value : {X : Type 0} → Verdict X → VerdictValue
verdict_value (verdicts.Yes ends) = Yes (map end_value ends.items)
verdict_value (verdicts.No count) = No count
verdict_value verdicts.Unfinished = Unfinished

abbrev pub IsVerdict : {X : Type 0} → Config → List ShownRecord → Verdict X → Type 0
IsVerdict config records verdict = HasVerdict config records (verdict_value verdict)

-- ---- the law

-- two verdicts that hold of the same records are one
abbrev pub HasOneVerdict : Type 0
HasOneVerdict =
    (config : Config) (records : List ShownRecord) (one other : VerdictValue)
    → HasVerdict config records one → HasVerdict config records other → one ≡ other

-- it isn't so that none holds
abbrev pub NeverNone : Type 0
NeverNone =
    (config : Config) (records : List ShownRecord)
    → ¬ ((verdict : VerdictValue) → ¬ HasVerdict config records verdict)
