use Rattle.std.proofs.Common.{◌≡◌, ◌++◌, ◌∷◌, List, ℕ, drop}
use Rattle.std.specs.List.{flat_map}
use Rattle.bgp_text.specs.Lines.{Writes}
use Rattle.bgp_text.specs.RouteText.{segment_text, as_path_text}
use Rattle.bgp_text.proofs.routes.put_as_path.Given as goal

-- what is written and what is left to write are the segments
abbrev pub invariant-loop-segment : goal.invariant-loop-segment
invariant-loop-segment g l =
    (text : List ℕ) × Writes l.fn.lines l.lines text
    × (text ++ flat_map (λ s. 32 ∷ segment_text s) (drop l.segment-index l.others) ≡ as_path_text l.fn.segments)
