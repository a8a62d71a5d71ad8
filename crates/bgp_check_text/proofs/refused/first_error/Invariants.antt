use Rattle.std.proofs.Common.{map, take}
use Rattle.std.specs.List.{AllByRecursion}
use Rattle.mrt.specs.Reader.{shown_of}
use Rattle.bgp_check_text.specs.Refused.{SendsNoUpdateError}
use Rattle.bgp_check_text.proofs.refused.first_error.Given as goal

-- none so far shows such a NOTIFICATION as sent
abbrev pub invariant-loop-count : goal.invariant-loop-count
invariant-loop-count l = AllByRecursion SendsNoUpdateError (map shown_of (take l.count l.records))
