-- Where memory is lacked while records are judged as a list.
use Rattle.std.specs.Prelude.{◌≡◌, ◌≤◌, ◌⊎◌, ◌++◌, ℕ, List, ◌∷◌, length}
use Rattle.bgp_prefix.specs.Shown.{ShownRecord}
use Rattle.bgp_open.specs.declared.config.Config.{Config}
use Rattle.bgp_machine.specs.Run.{Begins}
use Rattle.bgp_judge.specs.Verdict.{HasVerdict, No}

-- Memory is lacked for one of these records: those before it begin a run, and after them a tracker
-- may lack memory for it by `may_lack`.
pub record LacksForOne (may_lack : Config → List ShownRecord → ShownRecord → Type 0)
    (config : Config) (records : List ShownRecord) : Type 0 where
  pub before : List ShownRecord
  pub shown : ShownRecord
  pub later : List ShownRecord
  pub parts : before ++ shown ∷ later ≡ records
  pub begins : Begins config before
  pub lacks : may_lack config before shown

-- Memory is lacked: before the first record, where the tracker may lack it by `may_lack_at_start`;
-- or for one of the records; or behind all of them, for the ends, and then they begin a run.
abbrev pub LacksMemoryFor : (Config → Type 0)
    → (Config → List ShownRecord → ShownRecord → Type 0) → Config → List ShownRecord → Type 0
LacksMemoryFor may_lack_at_start may_lack config records =
    may_lack_at_start config ⊎ LacksForOne may_lack config records ⊎ Begins config records

-- ---- the law

-- Where the verdict is a no and memory is lacked, it is lacked before the first record, or for one
-- that isn't behind the first impossible one. So whatever is refused behind that one, the verdict
-- is answered.
abbrev pub LacksNoneBehindANo : (Config → Type 0)
    → (Config → List ShownRecord → ShownRecord → Type 0) → Type 0
LacksNoneBehindANo may_lack_at_start may_lack =
    (config : Config) (records : List ShownRecord) (count : ℕ)
    → HasVerdict config records (No count)
    → LacksMemoryFor may_lack_at_start may_lack config records
    → may_lack_at_start config
    ⊎ ((one : LacksForOne may_lack config records) × (length one.before ≤ count))
