use Rattle.std.proofs.Common.{◌≡◌, ◌++◌, ◌∷◌, List, ℕ, drop, decimal}
use Rattle.std.specs.List.{flat_map}
use Rattle.bgp_text.specs.Lines.{Writes}
use Rattle.bgp_text.specs.RouteText.{numbers_text}
use Rattle.bgp_text.proofs.routes.put_numbers.Given as goal

-- what is written and what is left to write are the numbers
abbrev pub invariant-loop-number : goal.invariant-loop-number
invariant-loop-number g l =
    (text : List ℕ) × Writes l.fn.lines l.lines text
    × (text ++ flat_map (λ n. l.between ∷ decimal n) (drop l.number-index l.others) ≡ numbers_text l.between l.fn.numbers)
