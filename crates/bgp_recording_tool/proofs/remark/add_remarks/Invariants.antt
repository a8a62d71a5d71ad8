use Rattle.std.proofs.Common.{◌≡◌, ◌++◌, List, drop}
use Rattle.bgp_recording_tool.specs.Remarks.{some_of}
use Rattle.bgp_recording_tool.specs.declared.remark.Remark.{Remark}
use Rattle.bgp_recording_tool.proofs.remark.add_remarks.Given as goal

-- some were added, and what is left of the list are the others
abbrev pub invariant-loop-remark : goal.invariant-loop-remark
invariant-loop-remark g l =
    (extra : List Remark) × (l.remarks.items ≡ l.fn.remarks.items ++ extra)
    × (extra ++ some_of (drop l.remark-index l.more) ≡ some_of l.more)
