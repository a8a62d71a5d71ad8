use Rattle.std.proofs.Common.{◌≡◌, ◌++◌, ◌∷◌, List, ℕ, drop, codes}
use Rattle.std.specs.List.{flat_map}
use Rattle.bgp_text.specs.Lines.{Writes}
use Rattle.bgp_path.specs.LargeCommunities.{large_community_text}
use Rattle.bgp_text.proofs.routes.put_large.Given as goal

-- what is written and what is left to write are the word and the values
abbrev pub invariant-loop-value : goal.invariant-loop-value
invariant-loop-value g l =
    (text : List ℕ) × Writes l.fn.lines l.lines text
    × (text ++ flat_map (λ v. 32 ∷ large_community_text v) (drop l.value-index l.values)
    ≡ codes " large" ++ flat_map (λ v. 32 ∷ large_community_text v) l.fn.values)
