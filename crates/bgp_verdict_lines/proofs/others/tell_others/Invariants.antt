use Rattle.std.proofs.Common.{◌≡◌, ◌++◌, List, drop}
use Rattle.bgp_why.specs.Items.{all_items, those_possible}
use Rattle.bgp_why.specs.OtherOrders.{besides}
use Rattle.bgp_json_verdicts.specs.Lines.{LineValue, other_item_values}
use Rattle.bgp_json_verdicts.specs.Telling.{Tells}
use Rattle.bgp_verdict_lines.proofs.others.tell_others.Given as goal

-- what is told and what is left to tell are all
abbrev pub invariant-loop-item : goal.invariant-loop-item
invariant-loop-item g l =
    (told : List LineValue) × Tells l.fn.telling l.telling l.fn.lines l.lines told
    × (told ++ other_item_values l.style.first (those_possible (drop l.item-index l.item-items))
    ≡ other_item_values l.fn.style.first (those_possible (all_items (besides l.fn.possible l.fn.others))))
