-- A session is cut before each record that leaves Idle, and no answer is lost by it.
use Rattle.std.specs.Prelude.{◌≡◌, ◌↔◌, ◌++◌, List, [], ◌∷◌, take}
use Rattle.bgp_prefix.specs.Shown.{ShownRecord}
use Rattle.bgp_open.specs.declared.config.Config.{Config}
use Rattle.bgp_machine.specs.Lists.{Each}
use Rattle.bgp_machine.specs.Run.{Begins, End, IsComplete, end_of}
use Rattle.bgp_machine.specs.State.{fresh_state}
use Rattle.bgp_check.specs.Stretch.{LeavesIdle}

-- the first record leaves Idle, and no other does
abbrev pub IsWholeStretch : List ShownRecord → Type 0
IsWholeStretch [] = ⊥
IsWholeStretch (first ∷ records) = LeavesIdle first × Each (λ shown. ¬ LeavesIdle shown) records

-- the records of stretches, one after another
abbrev pub joined : List (List ShownRecord) → List ShownRecord
joined [] = []
joined (stretch ∷ stretches) = stretch ++ joined stretches

-- each stretch begins a run with the record that leaves it, the first of the next one; and so does
-- the last
abbrev pub EachBegins : Config → List (List ShownRecord) → Type 0
EachBegins config [] = Unit {0}
EachBegins config (stretch ∷ []) = Begins config stretch
EachBegins config (stretch ∷ next ∷ stretches) =
    Begins config (stretch ++ take 1 next) × EachBegins config (next ∷ stretches)

-- ---- the laws

-- records that begin a run do so before a record that leaves Idle and from it on; and records that
-- do both begin one
abbrev pub CutBegins : Type 0
CutBegins =
    (config : Config) (before : List ShownRecord) (leaving : ShownRecord)
    (after : List ShownRecord) → LeavesIdle leaving
    → Begins config (before ++ leaving ∷ after)
    ↔ (Begins config (before ++ leaving ∷ []) × Begins config (leaving ∷ after))

-- so a session begins a run exactly where each of its stretches does with its leaving
abbrev pub StretchesBegin : Type 0
StretchesBegin =
    (config : Config) (stretches : List (List ShownRecord)) → Each IsWholeStretch stretches
    → Begins config (joined stretches) ↔ EachBegins config stretches

-- and where it is left, it ended in Idle, without routes: so it can have, and no otherwise
abbrev pub LeftEndsInIdle : Type 0
LeftEndsInIdle =
    (config : Config) (records : List ShownRecord) (leaving : ShownRecord) (end : End)
    → LeavesIdle leaving → Begins config (records ++ leaving ∷ [])
    → IsComplete config records end ↔ (end ≡ end_of fresh_state)
