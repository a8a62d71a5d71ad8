use Rattle.std.proofs.Common.{map, take}
use Rattle.mrt.specs.Reader.{shown_of}
use Rattle.mrt_sessions.specs.Located.{located}
use Rattle.mrt_sessions.specs.Sessions.{records_between}
use Rattle.mrt_sessions.proofs.Readings.{ReadsSoFar}
use Rattle.mrt_sessions.proofs.reading.read_session.Given as goal

-- the records so far
abbrev pub invariant-loop-named : goal.invariant-loop-named
invariant-loop-named g l = ReadsSoFar l.addresses l.extended (records_between l.addresses (map located (take l.named-index l.records))) (map shown_of l.shown.items) l.last
