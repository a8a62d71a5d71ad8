-- A text in a place that may be too short for it.
use Rattle.std.specs.Prelude.{◌≡◌, ◌++◌, ℕ, List, length, min, take, drop}

-- So many octets of the text stand at the front of the place: all of them, or as many as it has room
-- for. What is behind them is as it was. The length is that of the whole text.
pub record Stands (text : List ℕ) (count : ℕ) (place place' : List ℕ) : Type 0 where
  pub is_length : count ≡ length text
  pub stands : place'
      ≡ take (min (length text) (length place)) text
      ++ drop (min (length text) (length place)) place
