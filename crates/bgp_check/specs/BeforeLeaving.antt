-- Where a session is cut: before each record that leaves Idle.
use Rattle.std.specs.Prelude.{◌≡◌, ◌++◌, ℕ, List, [], ◌∷◌, length}
use Rattle.bgp_prefix.specs.Shown.{ShownRecord}
use Rattle.bgp_machine.specs.Lists.{Each}
use Rattle.bgp_check.specs.Stretch.{LeavesIdle}

-- none is left, or the first does
abbrev pub IsAtLeaving : List ShownRecord → Type 0
IsAtLeaving [] = Unit {0}
IsAtLeaving (first ∷ records) = LeavesIdle first

-- So many stand before the first that does: all, if none does.
pub record IsBeforeLeaving (records : List ShownRecord) (count : ℕ) : Type 0 where
  pub front : List ShownRecord
  pub rest : List ShownRecord
  pub whole : records ≡ front ++ rest
  pub many : count ≡ length front
  pub none : Each (λ shown. ¬ LeavesIdle shown) front
  pub next : IsAtLeaving rest
