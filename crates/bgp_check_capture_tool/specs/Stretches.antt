-- A session's records, cut before each that leaves Idle.
use Rattle.std.specs.Prelude.{◌≡◌, ◌++◌, List, [], ◌∷◌, Option, None, Some}
use Rattle.bgp_prefix.specs.Shown.{ShownRecord}
use Rattle.bgp_machine.specs.Lists.{Each}
use Rattle.bgp_check.specs.Cut.{IsWholeStretch, joined}
use Rattle.bgp_check.specs.Stretch.{LeavesIdle}
use Rattle.bgp_check.specs.BeforeLeaving.{IsAtLeaving}

-- They are those before the first that leaves Idle, then these stretches, and what is left, which
-- begins where a record leaves Idle.
pub record AreCut (records front : List ShownRecord) (stretches : List (List ShownRecord))
    (rest : List ShownRecord) : Type 0 where
  pub whole : records ≡ front ++ (joined stretches ++ rest)
  pub none : Each (λ shown. ¬ LeavesIdle shown) front
  pub each : Each IsWholeStretch stretches
  pub next : IsAtLeaving rest

-- The first stretch of records that begin where one leaves Idle, and what follows it.
pub record IsFirst (records stretch behind : List ShownRecord) : Type 0 where
  pub whole : records ≡ stretch ++ behind
  pub stretched : IsWholeStretch stretch
  pub next : IsAtLeaving behind

-- the first record, if there is one
abbrev pub first_of : List ShownRecord → Option ShownRecord
first_of [] = None
first_of (first ∷ records) = Some first
