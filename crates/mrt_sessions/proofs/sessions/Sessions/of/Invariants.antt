use Rattle.std.proofs.Common.{map, take}
use Rattle.mrt_sessions.specs.Gathering.{Gathers}
use Rattle.mrt_sessions.specs.Located.{located}
use Rattle.mrt_sessions.proofs.sessions.Sessions.of.Given as goal

-- the sessions of the records so far
abbrev pub invariant-loop-named : goal.invariant-loop-named
invariant-loop-named g l = Gathers (map located (take l.named-index l.records)) l.sessions
