-- Which record of a stretch is named where it is a no.
use Rattle.std.specs.Prelude.{◌≡◌, ℕ, List, Option, Some, length}
use Rattle.std.specs.List.{slice_get}
use Rattle.bgp_prefix.specs.Shown.{ShownRecord}
use Rattle.bgp_prefix.specs.declared.session.Session.{Session}
use Rattle.bgp_open.specs.declared.config.Config.{Config}
use Rattle.bgp_judge.specs.Verdict.{No}
use Rattle.bgp_check.specs.Answered.{JudgedAs}
use Rattle.bgp_check.specs.declared.peer_as.PeerAs.{PeerAs}
use Rattle.bgp_check.specs.StretchTold.{IsStretchTold, ToldValue, with_leaving}

-- The record after so many of those that are judged is the one of the stretch before which so many
-- stand as are named; of the stretch with the record that leaves it, if one does.
pub record NamesTheRecord (stretch : List ShownRecord) (leaving : Option ShownRecord)
    (told : ToldValue) (count : ℕ) : Type 0 where
  pub place : ℕ
  pub shown : ShownRecord
  pub is_named : told.impossible ≡ Some place
  pub is_judged : slice_get told.records count ≡ Some shown
  pub stands : slice_get (with_leaving stretch leaving) place ≡ Some shown

-- ---- the law

-- A no after so many of the records that are judged names the next one of them: with it no run goes
-- on.
abbrev pub NoNamesItsRecord : Type 0
NoNamesItsRecord =
    (session : Session) (stretch : List ShownRecord) (leaving : Option ShownRecord)
    (told : ToldValue) (number : Option ℕ) (peer : PeerAs) (under : Config) (count : ℕ)
    → IsStretchTold session stretch (length stretch) leaving told
    → told.answer ≡ JudgedAs number peer under (No count)
    → NamesTheRecord stretch leaving told count
