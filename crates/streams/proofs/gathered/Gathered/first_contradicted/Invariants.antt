use Rattle.std.proofs.Common.{◌≡◌, ◌+◌, drop}
use Rattle.streams.specs.Given.{given_at, first_conflict}
use Rattle.streams.proofs.gathered.Gathered.first_contradicted.Given as goal

-- the octets so far contradict nothing
abbrev pub invariant-loop-i : goal.invariant-loop-i
invariant-loop-i g l =
    first_conflict (given_at l.self) l.fin (l.place + l.i) (drop l.i l.octets) ≡ first_conflict (given_at l.self) l.fin l.place l.octets
