use Rattle.std.proofs.Common.{ℕ, ◌<◌, List}
use Rattle.bgp_open.specs.OpenSubcodes.{Names}
use Rattle.bgp_open.proofs.subcodes.OpenSubcodes.least.Given as goal

abbrev pub invariant-loop-subcode : goal.invariant-loop-subcode
invariant-loop-subcode l = (n : ℕ) (detail : List ℕ) → n < l.subcode → ¬ Names l.self n detail
