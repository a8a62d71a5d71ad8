use Rattle.std.proofs.Common.{map, take}
use Rattle.std.specs.List.{AllByRecursion}
use Rattle.mrt.specs.Reader.{shown_of}
use Rattle.bgp_ended.specs.Stretch.{ShowsNoError}
use Rattle.bgp_ended.proofs.stretch.ended_in.Given as goal

-- none so far shows a NOTIFICATION
abbrev pub invariant-loop-before : goal.invariant-loop-before
invariant-loop-before l = AllByRecursion ShowsNoError (map shown_of (take l.before l.records))
