use Rattle.std.proofs.Common.{ℕ, drop}
use Rattle.bgp_import.specs.Captures.{IsAsNumberOf}
use Rattle.bgp_import.proofs.capture.as_number_of.Given as goal

-- the number of the rest is that of all
abbrev pub invariant-loop-entry : goal.invariant-loop-entry
invariant-loop-entry l =
    (number : ℕ) → IsAsNumberOf l.from (drop l.entry-index l.entries) number → IsAsNumberOf l.from l.entries number
