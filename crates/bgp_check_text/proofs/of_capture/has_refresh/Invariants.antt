use Rattle.std.proofs.Common.{map, take}
use Rattle.std.specs.List.{AllByRecursion}
use Rattle.mrt.specs.Reader.{shown_of}
use Rattle.bgp_recording.specs.Captured.{IsNoRefresh}
use Rattle.bgp_check_text.proofs.of_capture.has_refresh.Given as goal

-- none of those so far is one
abbrev pub invariant-loop-shown : goal.invariant-loop-shown
invariant-loop-shown l = AllByRecursion IsNoRefresh (map shown_of (take l.shown-index l.records))
