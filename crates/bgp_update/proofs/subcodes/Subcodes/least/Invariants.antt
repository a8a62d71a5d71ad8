use Rattle.std.proofs.Common.{ℕ, ◌<◌}
use Rattle.bgp_update.specs.Subcodes.{HasSubcode}
use Rattle.bgp_update.proofs.subcodes.Subcodes.least.Given as goal

abbrev pub invariant-loop-subcode : goal.invariant-loop-subcode
invariant-loop-subcode l = (m : ℕ) → m < l.subcode → ¬ HasSubcode l.self m
