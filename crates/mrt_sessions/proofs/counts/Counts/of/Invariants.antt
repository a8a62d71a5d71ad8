use Rattle.std.proofs.Common.{◌≡◌, map, take}
use Rattle.mrt_sessions.specs.Counts.{counts_in}
use Rattle.mrt_sessions.specs.Located.{located}
use Rattle.mrt_sessions.proofs.counts.Counts.of.Given as goal

-- those of the records so far
abbrev pub invariant-loop-named : goal.invariant-loop-named
invariant-loop-named l = l.counts ≡ counts_in (map located (take l.named-index l.records))
