-- What is found at a place of a file.
use Rattle.std.specs.Prelude.{◌≡◌, ◌++◌, ℕ, List}
use Rattle.mrt_sessions.specs.File.{IsPart, Named, Other, StopsBy}
use Rattle.mrt_sessions.specs.declared.front.Front.{Front}
use Rattle.mrt_sessions.specs.declared.front.Front.TheVariants as fronts

-- where these octets are left
abbrev pub IsFront : List ℕ → Front → Type 0
IsFront octets (fronts.Stop refusal) = StopsBy octets refusal
IsFront octets (fronts.Other part rest) =
    IsPart (Other part.now) × (octets ≡ part.now ++ rest.now)
IsFront octets (fronts.Named part rest) =
    IsPart (Named part.now) × (octets ≡ part.now ++ rest.now)
