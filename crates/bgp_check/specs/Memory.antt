-- Where memory is lacked while an end of a session is judged.
use Rattle.std.specs.Prelude.{◌≡◌, ◌⊎◌, List, ℕ, Option, None, Some, option_map}
use Rattle.bgp_prefix.specs.Shown.{ShownRecord}
use Rattle.bgp_prefix.specs.declared.session.Session.{Session}
use Rattle.bgp_open.specs.declared.config.Config.{Config}
use Rattle.bgp_open.specs.Open.{OpenFields, open_of}
use Rattle.bgp_judge.specs.Memory.{LacksMemoryFor}
use Rattle.bgp_judge.specs.Verdict.{HasVerdict, VerdictValue}
use Rattle.bgp_parts.specs.Opens.{HasOwnOpen, HasPeersOpen}
use Rattle.bgp_check.specs.declared.widest.Widest.{Widest}
use Rattle.bgp_check.specs.Checked.{IsYes}
use Rattle.bgp_check.specs.NotJudged.{IsWhyNot}
use Rattle.bgp_check.specs.WidestOf.{AreTold, parts_of, widest_of}

-- A tracker may lack memory before the first record by `may_lack_at_start`, and for one record more
-- by `may_lack`: under a configuration, after these records.
module _ (may_lack_at_start : Config → Type 0)
    (may_lack : Config → List ShownRecord → ShownRecord → Type 0) where
  -- Memory is lacked under the one configuration, if there is one; or under the other, and then the
  -- verdict under the one isn't yes.
  abbrev pub LacksMemoryUnder : Option Config → Config → List ShownRecord → Type 0
  LacksMemoryUnder None another records =
      LacksMemoryFor may_lack_at_start may_lack another records
  LacksMemoryUnder (Some wanting) another records =
      LacksMemoryFor may_lack_at_start may_lack wanting records
      ⊎ (((verdict : VerdictValue) × HasVerdict wanting records verdict × (¬ IsYes verdict))
      × LacksMemoryFor may_lack_at_start may_lack another records)

  -- under the configurations that are widest
  abbrev pub LacksMemoryOver : Widest → List ShownRecord → Type 0
  LacksMemoryOver widest records = LacksMemoryUnder widest.wanting widest.another records

  -- The local system of these records of the session is judged, and under the configurations that
  -- are widest by the first OPEN that it sent and the first that it received memory is lacked.
  pub record LacksMemoryAtEnd (session : Session) (records : List ShownRecord) : Type 0 where
    pub own : Option (List ℕ)
    pub peers : Option (List ℕ)
    pub told : Option OpenFields
    pub widest : Widest
    pub none : IsWhyNot records None
    pub has_own : HasOwnOpen records own
    pub has_peers : HasPeersOpen records peers
    pub are_told : AreTold peers told
    pub made : parts_of widest ≡ widest_of session (option_map open_of own) told
    pub lacks : LacksMemoryOver widest records
