use Rattle.std.proofs.Common.{◌≡◌, ◌++◌, List, ℕ}
use Rattle.std.specs.List.{flat_map}
use Rattle.bgp_text.specs.Lines.{Writes}
use Rattle.bgp_text.specs.Text.{capability_text}
use Rattle.bgp_text.proofs.messages.put_capabilities.Given as goal

-- what is written and what is left to write are the capabilities
abbrev pub invariant-loop-another : goal.invariant-loop-another
invariant-loop-another g l =
    (text : List ℕ) × Writes l.fn.lines l.lines text
    × (text ++ flat_map capability_text l.another-iterator ≡ flat_map capability_text l.fn.capabilities)
