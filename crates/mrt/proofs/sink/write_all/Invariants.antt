use Rattle.std.proofs.Common.{◌≡◌, ℕ, List, ◌++◌, length}
use Rattle.mrt.proofs.sink.write_all.Given as goal

-- what was taken so far and the rest are the octets, and no write has failed
abbrev pub invariant-loop-rest : goal.invariant-loop-rest
invariant-loop-rest g l =
    ((taken : List ℕ) × (l.octets ≡ taken ++ l.rest) × g.S.Sink.takes l.fn.sink l.sink taken)
    × (g.S.Sink.failures l.sink ≡ g.S.Sink.failures l.fn.sink)

-- each write takes an octet at least
abbrev pub decreases-loop-rest : goal.decreases-loop-rest
decreases-loop-rest g l = length l.rest
