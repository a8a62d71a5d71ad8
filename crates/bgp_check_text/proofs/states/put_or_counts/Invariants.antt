use Rattle.std.proofs.Common.{◌≡◌, ◌++◌, List, ℕ, drop}
use Rattle.std.specs.List.{flat_map}
use Rattle.bgp_text.specs.Lines.{Writes}
use Rattle.bgp_check_text.specs.States.{or_count}
use Rattle.bgp_check_text.proofs.states.put_or_counts.Given as goal

-- what is written and what is left to write are the counts
abbrev pub invariant-loop-count : goal.invariant-loop-count
invariant-loop-count g l =
    (text : List ℕ) × Writes l.fn.lines l.lines text
    × (text ++ flat_map or_count (drop l.count-index l.counts) ≡ flat_map or_count l.counts)
