-- A stretch of a session: its records from one that leaves Idle up to the next one that does.
use Rattle.std.specs.Prelude.{◌≡◌, ◌≢◌, List, [], ◌∷◌}
use Rattle.bgp_prefix.specs.Shown.{ShownRecord, Changed}

-- a change from Idle, 1, to another state
abbrev pub LeavesIdle : ShownRecord → Type 0
LeavesIdle (Changed t old new) = (old ≡ 1) × (new ≢ 1)
LeavesIdle shown = ⊥

-- none but the last leaves Idle
abbrev pub AtMostTheLastLeaves : List ShownRecord → Type 0
AtMostTheLastLeaves [] = Unit {0}
AtMostTheLastLeaves (shown ∷ []) = Unit {0}
AtMostTheLastLeaves (shown ∷ next ∷ records) =
    (¬ LeavesIdle shown) × AtMostTheLastLeaves (next ∷ records)

-- The first record leaves Idle, and no other does; or the last one does again, with which the next
-- stretch begins: the leaving of this one.
abbrev pub IsStretch : List ShownRecord → Type 0
IsStretch [] = ⊥
IsStretch (first ∷ records) = LeavesIdle first × AtMostTheLastLeaves records
