use Rattle.std.proofs.Common.{◌≡◌, ◌+◌, length, map}
use Rattle.mrt.specs.Reader.{shown_of}
use Rattle.bgp_check_capture_tool.specs.StretchEnd.{view_value}
use Rattle.bgp_check_capture_tool.proofs.ToldSoFar.{SoFar}
use Rattle.bgp_check_capture_tool.proofs.ends.put_stretches.Given as goal

-- what is told so far, and what is left
abbrev pub invariant-loop-rest : goal.invariant-loop-rest
invariant-loop-rest g l = record {
  so_far : SoFar l.view.telling.printing (view_value l.view) (map shown_of l.records) (map shown_of l.rest) l.before l.fn.lines l.lines l.fn.tally l.so_far l.fn.marks l.marks;
  all : l.before + length l.rest ≡ length l.records;
}

abbrev pub decreases-loop-rest : goal.decreases-loop-rest
decreases-loop-rest g l = length l.rest
