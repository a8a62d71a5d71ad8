use Rattle.std.proofs.Common.{◌≡◌, ◌++◌, List, drop, not}
use Rattle.bgp_why.specs.Items.{those_possible}
use Rattle.bgp_why.specs.Lacks.{but_text}
use Rattle.bgp_json_verdicts.specs.Lines.{LineValue, item_values, possible_values}
use Rattle.bgp_json_verdicts.specs.Telling.{Tells}
use Rattle.bgp_verdict_lines.proofs.possible.tell_possible.Given as goal

-- what is told and what is left to tell are all
abbrev pub invariant-loop-item : goal.invariant-loop-item
invariant-loop-item g l =
    (told : List LineValue) × Tells l.fn.telling l.telling l.fn.lines l.lines told
    × (told ++ item_values (not l.possible.message) l.is_next l.is_first l.style.first (but_text l.style.own_faults l.lacks) (those_possible (drop l.item-index l.item-items))
    ≡ possible_values l.fn.style l.fn.is_next (but_text l.fn.style.own_faults l.fn.lacks) l.fn.possible)
