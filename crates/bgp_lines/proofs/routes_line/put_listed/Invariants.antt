use Rattle.std.proofs.Common.{◌≡◌, ◌++◌, ◌∷◌, List, ℕ}
use Rattle.std.specs.List.{flat_map}
use Rattle.bgp_text.specs.Lines.{Writes}
use Rattle.bgp_text.specs.Text.{destination_text, destinations_text}
use Rattle.bgp_lines.proofs.routes_line.put_listed.Given as goal

-- what is written and what is left to write are the destinations
abbrev pub invariant-loop-destination : goal.invariant-loop-destination
invariant-loop-destination g l =
    (text : List ℕ) × Writes l.fn.lines l.lines text
    × (text ++ flat_map (λ d. 32 ∷ destination_text d) l.destination-iterator ≡ destinations_text (l.fn.first ∷ l.fn.others))
