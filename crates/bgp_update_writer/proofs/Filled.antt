-- A vector that has got some octets, and its room.
use Rattle.std.proofs.Common.{◌≡◌, ◌≤◌, ◌+◌, ◌++◌, ℕ, List, length}

-- a vector of these items, this length and this capacity has got these octets since it had those
pub record IsFilled (old : List ℕ) (count room : ℕ) (octets new : List ℕ) (count' room' : ℕ) : Type 0 where
  pub items : new ≡ old ++ octets
  pub len : count' ≡ count + length octets
  pub capacity : room ≤ room'
