use Rattle.std.proofs.Common.{map}
use Rattle.mrt.specs.Reader.{shown_of}
use Rattle.mrt_sessions.proofs.Awaiting.{IsReadOn}
use Rattle.mrt_sessions.proofs.alike.reads_as.Given as goal

-- all are read as the records exactly where those that are left are read as what is awaited
abbrev pub invariant-loop-next : goal.invariant-loop-next
invariant-loop-next l = IsReadOn l.session l.named (map shown_of l.records) l.awaited l.next-index
