-- The octets of a stream that are given after a hole: islands, each a stretch of octets, by the
-- place right after its last one.
use Rattle.std.specs.Prelude.{ℕ, ◌≡◌, ◌<◌, ◌≤◌, ◌+◌, ◌⊎◌, Option, Some, None, length}
use Rattle.std.specs.BTreeMap.{BTreeMap, get, keys}
use Rattle.std.specs.List.Sorted.{IsStrictlyIncreasing}
use Rattle.std.specs.Ordering.{nat_cmp}
use Rattle.streams.specs.declared.gathered.Gathered.{Gathered}
use Rattle.streams.specs.declared.stretch.Stretch.{Stretch}
use Rattle.streams.specs.Given.{total, AreCounted, extent_of}

module _ {Z : Type 0} (islands : BTreeMap ℕ (Stretch Z)) where
  -- this island ends right before the place
  abbrev pub EndsAt : ℕ → Stretch Z → Type 0
  EndsAt end island = get nat_cmp islands end ≡ Some island

  -- no island ends after the place
  abbrev pub IsNoneAfter : ℕ → Type 0
  IsNoneAfter place = (end : ℕ) (island : Stretch Z) → EndsAt end island → end ≤ place

  -- this is the first that does
  pub record IsFirstAfter (place end : ℕ) (island : Stretch Z) : Type 0 where
    pub is : EndsAt end island
    pub after : place < end
    pub first : (other : ℕ) (one : Stretch Z) → EndsAt other one → place < other → end ≤ other

-- an island that ends right before the place: it has octets, and their runs
pub record IsIsland {Z : Type 0} (end : ℕ) (island : Stretch Z) : Type 0 where
  pub some : 0 < extent_of island
  pub fits : extent_of island ≤ end
  pub covered : total island.runs.items ≡ extent_of island
  pub counted : AreCounted island.runs.items

-- no two of the islands overlap; they may touch
pub record AreIslands {Z : Type 0} (islands : BTreeMap ℕ (Stretch Z)) : Type 0 where
  pub ordered : IsStrictlyIncreasing (keys islands)
  pub each : (end : ℕ) (island : Stretch Z) → EndsAt islands end island → IsIsland end island
  pub apart : (end later : ℕ) (island other : Stretch Z) → EndsAt islands end island →
      EndsAt islands later other → end < later → end + extent_of other ≤ later

-- they begin at this place or after it
abbrev pub AreFrom : {Z : Type 0} → ℕ → BTreeMap ℕ (Stretch Z) → Type 0
AreFrom {Z} place islands = (end : ℕ) (island : Stretch Z) →
    EndsAt islands end island → place + extent_of island ≤ end

-- and not at it
abbrev pub AreAfter : {Z : Type 0} → ℕ → BTreeMap ℕ (Stretch Z) → Type 0
AreAfter {Z} place islands = (end : ℕ) (island : Stretch Z) →
    EndsAt islands end island → place + extent_of island < end

-- What is held of a stream: the runs are those of the octets known, after which one is missing; and
-- the islands after that.
pub record IsSound {Z : Type 0} (gathered : Gathered Z) : Type 0 where
  pub covered : total gathered.known.runs.items ≡ length gathered.known.octets.items
  pub counted : AreCounted gathered.known.runs.items
  pub islands : AreIslands gathered.islands
  pub hole : AreAfter (length gathered.known.octets.items) gathered.islands

-- no octet is given from the one place on and before the other
pub record IsFree {Z : Type 0} (gathered : Gathered Z) (from to : ℕ) : Type 0 where
  pub known : length gathered.known.octets.items ≤ from
  pub islands : (end : ℕ) (island : Stretch Z) → EndsAt gathered.islands end island →
      (end ≤ from) ⊎ (to + extent_of island ≤ end)

-- an island begins right after what is known, and ends right before the place
pub record Touches {Z : Type 0} (gathered : Gathered Z) (end : ℕ) : Type 0 where
  pub island : Stretch Z
  pub is : EndsAt gathered.islands end island
  pub begins : length gathered.known.octets.items + extent_of island ≡ end

abbrev pub IsTouching : {Z : Type 0} → Gathered Z → Option ℕ → Type 0
IsTouching gathered None = AreAfter (length gathered.known.octets.items) gathered.islands
IsTouching gathered (Some end) = Touches gathered end
