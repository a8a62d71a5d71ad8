use Rattle.std.proofs.Common.{◌≡◌, ◌≤◌, drop, length, map}
use Rattle.bgp_judge.specs.Ends.{end_value}
use Rattle.bgp_check_text.specs.Reached.{counts_of}
use Rattle.bgp_check_text.proofs.reached.counts_of.Given as goal

-- the counts of those from here on
abbrev pub invariant-loop-index : goal.invariant-loop-index
invariant-loop-index g l = record {
  within : l.index ≤ length l.endings;
  so_far : l.counts.items ≡ counts_of (map end_value (drop l.index l.endings));
}

abbrev pub decreases-loop-index : goal.decreases-loop-index
decreases-loop-index g l = l.index
