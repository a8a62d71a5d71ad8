use Rattle.std.proofs.Common.{◌≡◌, ◌++◌, List, ℕ, length}
use Rattle.bgp_text.specs.Lines.{Writes}
use Rattle.bgp_lines.specs.Joined.{each_behind}
use Rattle.bgp_values.specs.Items.{items_of}
use Rattle.bgp_lines.specs.ItemText.{item_text}
use Rattle.bgp_lines.proofs.items.put_each.Given as goal

-- what is written and what is left to write are all
abbrev pub invariant-loop-piece : goal.invariant-loop-piece
invariant-loop-piece g l =
    (text : List ℕ) × Writes l.fn.lines l.lines text
    × (text ++ each_behind (l.before) (item_text l.item) (items_of l.item l.rest) ≡ each_behind (l.before) (item_text l.item) (items_of l.item l.octets))

abbrev pub decreases-loop-piece : goal.decreases-loop-piece
decreases-loop-piece g l = length l.rest
