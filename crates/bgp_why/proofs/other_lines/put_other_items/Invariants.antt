use Rattle.std.proofs.Common.{◌≡◌, ◌++◌, List, ℕ, drop}
use Rattle.bgp_text.specs.Lines.{Writes}
use Rattle.bgp_why.specs.Items.{all_items, those_possible}
use Rattle.bgp_why.specs.Possible.{other_item_lines}
use Rattle.bgp_why.proofs.other_lines.put_other_items.Given as goal

-- what is written and what is left to write are the lines
abbrev pub invariant-loop-item : goal.invariant-loop-item
invariant-loop-item g l =
    (text : List ℕ) × Writes l.fn.lines l.lines text
    × (text ++ other_item_lines l.style.first (those_possible (drop l.item-index l.item-items)) ≡ other_item_lines l.fn.style.first (those_possible (all_items l.fn.others)))
