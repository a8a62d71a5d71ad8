use Rattle.std.proofs.Common.{◌≡◌, ◌++◌, List, ℕ, codes}
use Rattle.std.specs.List.{flat_map}
use Rattle.bgp_text.specs.Lines.{Writes}
use Rattle.bgp_open.specs.Triplet.{Triplet}
use Rattle.bgp_lines.specs.OpenLine.{named_capability}
use Rattle.bgp_lines.proofs.open_line.put_capabilities.Given as goal

-- what is written and what is left to write are the values
abbrev pub invariant-loop-capability : goal.invariant-loop-capability
invariant-loop-capability g l =
    (text : List ℕ) × Writes l.fn.lines l.lines text
    × (text ++ flat_map (λ (t : Triplet). codes " | " ++ named_capability t) l.capability-iterator ≡ flat_map (λ (t : Triplet). codes " | " ++ named_capability t) l.fn.capabilities)
