-- A text in a room: what contracts see of it, and what was written in place.
use Rattle.std.specs.Prelude.{◌≡◌, ◌++◌, ℕ, List, length, take}

-- what a contract sees of a `Room`: its text
pub record Room : Type 0 where
  pub items : List ℕ

-- Behind the first of some places, up to `at`, a text was written up to `end`. What stands before
-- it is as it was; what stands behind it is left open.
pub record Puts (old : List ℕ) (at : ℕ) (new : List ℕ) (end : ℕ) (text : List ℕ) : Type 0 where
  pub front : take end new ≡ take at old ++ text
  pub len : length new ≡ length old
