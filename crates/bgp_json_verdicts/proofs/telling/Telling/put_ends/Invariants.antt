use Rattle.std.proofs.Common.{◌≡◌, ◌++◌, List, drop}
use Rattle.std.specs.List.{flat_map}
use Rattle.bgp_judge.specs.Ends.{end_value}
use Rattle.bgp_json_verdicts.specs.Lines.{LineValue, end_lines}
use Rattle.bgp_json_verdicts.specs.Telling.{Tells}
use Rattle.bgp_json_verdicts.proofs.telling.Telling.put_ends.Given as goal

-- what is told and what is left to tell are the ends
abbrev pub invariant-loop-end : goal.invariant-loop-end
invariant-loop-end g l =
    (told : List LineValue) × Tells l.fn.self l.self l.fn.lines l.lines told
    × (told ++ flat_map (λ e. end_lines (end_value e)) (drop l.end-index l.ends)
    ≡ flat_map (λ e. end_lines (end_value e)) l.fn.ends)
