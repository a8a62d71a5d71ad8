use Rattle.std.proofs.Common.{◌≡◌, ◌++◌, List, ℕ, drop}
use Rattle.std.specs.List.{flat_map}
use Rattle.bgp_judge.specs.Ends.{end_value}
use Rattle.bgp_text.specs.Lines.{Writes}
use Rattle.bgp_tool.specs.VerdictText.{end_text}
use Rattle.bgp_tool.proofs.verdicts.put_ends.Given as goal

-- what is written and what is left to write are the ends
abbrev pub invariant-loop-end : goal.invariant-loop-end
invariant-loop-end g l =
    (text : List ℕ) × Writes l.fn.lines l.lines text
    × (text ++ flat_map (λ e. end_text (end_value e)) (drop l.end-index l.ends)
    ≡ flat_map (λ e. end_text (end_value e)) l.fn.ends)
