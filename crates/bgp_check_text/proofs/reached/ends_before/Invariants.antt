use Rattle.std.proofs.Common.{map}
use Rattle.mrt.specs.Reader.{shown_of}
use Rattle.bgp_check_text.proofs.Fronts.{NoneLonger}
use Rattle.bgp_check_text.proofs.reached.ends_before.Given as goal

-- no longer front has an end in Established
abbrev pub invariant-loop-left : goal.invariant-loop-left
invariant-loop-left g l = NoneLonger l.config (map shown_of l.records) l.left

abbrev pub decreases-loop-left : goal.decreases-loop-left
decreases-loop-left g l = l.left
