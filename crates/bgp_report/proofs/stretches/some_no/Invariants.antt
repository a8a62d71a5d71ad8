use Rattle.std.proofs.Common.{◌≡◌, drop, map}
use Rattle.std.specs.List.{list_any}
use Rattle.bgp_check_capture_tool.specs.Marks.{mark_value}
use Rattle.bgp_report.specs.Stretches.{has_no}
use Rattle.bgp_report.proofs.stretches.some_no.Given as goal

-- none of those so far has one
abbrev pub invariant-loop-mark : goal.invariant-loop-mark
invariant-loop-mark g l = list_any has_no (map mark_value l.marks) ≡ list_any has_no (map mark_value (drop l.mark-index l.marks))
