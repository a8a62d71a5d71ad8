use Rattle.std.proofs.Common.{◌-◌, length}
use Rattle.std.specs.Io.KnownBytes.{Consumes}
use Rattle.bgp_recording_tool.proofs.peeked.Peeked.new.Given as goal

-- the front is what the reader gave
abbrev pub invariant-loop-octet : goal.invariant-loop-octet
invariant-loop-octet g l = Consumes (g.R.Read.remaining l.fn.reader) (g.R.Read.remaining l.reader) l.front.items

-- so many octets are wanted still
abbrev pub decreases-loop-octet : goal.decreases-loop-octet
decreases-loop-octet g l = 4 - length l.front.items
