use Rattle.std.proofs.Common.{◌≡◌, drop}
use Rattle.streams.specs.Directions.{first_above}
use Rattle.streams.proofs.direction.first_above.Given as goal

-- none so far showed it
abbrev pub invariant-loop-it : goal.invariant-loop-it
invariant-loop-it l = first_above (drop l.it-index l.shown) l.place ≡ first_above l.shown l.place
