-- The place of a sequence number is the only one near the octets known that is congruent to it.
use Rattle.std.specs.Prelude.{ℕ, ◌≡◌, ◌<◌, ◌≤◌, ◌+◌, ◌%◌}
use Rattle.streams.specs.Places.{range, half, raised_place}

-- A place lies from `next` less half the range on and below `next` and half the range, and is
-- congruent, modulo the range, to the sequence number's distance from the first octet after the SYN
-- (RFC 9293, 3.4). Both are raised by half the range, since a place may be below 0.
pub record IsPlace (next offset raised : ℕ) : Type 0 where
  pub from_next : next ≤ raised
  pub within : raised < next + range
  pub congruent : raised % range ≡ (offset + half) % range

-- just one place is such
abbrev pub PlacesAreUnique : Type 0
PlacesAreUnique = (next offset : ℕ) →
    IsPlace next offset (raised_place next offset)
    × ((raised : ℕ) → IsPlace next offset raised → raised ≡ raised_place next offset)
