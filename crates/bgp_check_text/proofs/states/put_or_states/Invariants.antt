use Rattle.std.proofs.Common.{◌≡◌, ◌++◌, List, ℕ, drop}
use Rattle.std.specs.List.{flat_map}
use Rattle.bgp_judge.specs.Ends.{end_value}
use Rattle.bgp_text.specs.Lines.{Writes}
use Rattle.bgp_check_text.specs.Reached.{reached_value}
use Rattle.bgp_check_text.specs.States.{or_state}
use Rattle.bgp_check_text.proofs.states.put_or_states.Given as goal

-- what is written and what is left to write are the ends
abbrev pub invariant-loop-ending : goal.invariant-loop-ending
invariant-loop-ending g l =
    (text : List ℕ) × Writes l.fn.lines l.lines text
    × (text ++ flat_map (λ e. or_state (reached_value l.reached) (end_value e)) (drop l.ending-index l.endings)
    ≡ flat_map (λ e. or_state (reached_value l.reached) (end_value e)) l.fn.endings)
