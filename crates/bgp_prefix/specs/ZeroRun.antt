-- Runs of zero groups in an IPv6 address, and the one that `::` stands for (RFC 5952, 4.2).
use Rattle.std.specs.Prelude.{◌≡◌, ◌≤◌, ◌<◌, ℕ, ◌+◌, List, length, take, drop, replicate}
use Rattle.std.specs.Prelude.{MatchOption, Option}

-- from a place on, so many groups are zero
abbrev pub IsZeroRun : List ℕ → ℕ → ℕ → Type 0
IsZeroRun groups place count =
    (place + count ≤ length groups) × (take count (drop place groups) ≡ replicate count 0)

-- a run of two groups or more; no run is longer, and none as long begins before it
pub record IsFirstLongest (groups : List ℕ) (place count : ℕ) : Type 0 where
  pub long : 2 ≤ count
  pub zeros : IsZeroRun groups place count
  pub longest : (other len : ℕ) → IsZeroRun groups other len → len ≤ count
  pub first : (other : ℕ) → IsZeroRun groups other count → place ≤ other

-- no run has two groups or more
abbrev pub LacksRuns : List ℕ → Type 0
LacksRuns groups = (place count : ℕ) → IsZeroRun groups place count → count < 2

-- the run, or none
abbrev pub IsShortenedRun : List ℕ → Option (ℕ × ℕ) → Type 0
IsShortenedRun groups run = MatchOption run (LacksRuns groups) (λ r. IsFirstLongest groups r.0 r.1)
