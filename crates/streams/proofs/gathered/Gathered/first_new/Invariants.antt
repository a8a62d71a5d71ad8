use Rattle.std.proofs.Common.{◌≡◌, ◌+◌, drop}
use Rattle.streams.specs.Given.{given_at, first_new}
use Rattle.streams.proofs.gathered.Gathered.first_new.Given as goal

-- the octets so far were given before
abbrev pub invariant-loop-i : goal.invariant-loop-i
invariant-loop-i g l =
    first_new (given_at l.self) (l.place + l.i) (drop l.i l.octets) ≡ first_new (given_at l.self) l.place l.octets
