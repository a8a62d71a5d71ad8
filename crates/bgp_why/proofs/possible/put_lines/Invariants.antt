use Rattle.std.proofs.Common.{◌≡◌, ◌++◌, List, ℕ, drop}
use Rattle.bgp_text.specs.Lines.{Writes}
use Rattle.bgp_why.specs.Items.{those_possible}
use Rattle.bgp_why.specs.Lacks.{but_text}
use Rattle.bgp_why.specs.Possible.{item_lines, shown_lines}
use Rattle.bgp_why.proofs.possible.put_lines.Given as goal

-- what is written and what is left to write are the lines
abbrev pub invariant-loop-item : goal.invariant-loop-item
invariant-loop-item g l =
    (text : List ℕ) × Writes l.fn.lines l.lines text
    × (text ++ item_lines l.style.first (but_text l.style.own_faults l.lacks) l.word (those_possible (drop l.item-index l.item-items)) ≡ shown_lines l.fn.style l.fn.is_next (but_text l.fn.style.own_faults l.fn.lacks) l.fn.possible)
