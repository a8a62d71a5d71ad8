use Rattle.std.proofs.Common.{◌≡◌, ◌++◌, List, ℕ, drop, codes}
use Rattle.std.specs.List.{flat_map}
use Rattle.bgp_text.specs.Lines.{Writes}
use Rattle.bgp_lines.specs.Others.{fault_text}
use Rattle.bgp_lines.proofs.others.put_more_faults.Given as goal

-- what is written and what is left to write are the values
abbrev pub invariant-loop-subcode : goal.invariant-loop-subcode
invariant-loop-subcode g l =
    (text : List ℕ) × Writes l.fn.lines l.lines text
    × (text ++ flat_map (λ (s : ℕ). codes ", " ++ fault_text s) (drop l.subcode-index l.subcodes) ≡ flat_map (λ (s : ℕ). codes ", " ++ fault_text s) l.fn.subcodes)
