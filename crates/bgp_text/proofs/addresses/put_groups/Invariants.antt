use Rattle.std.proofs.Common.{◌≡◌, ◌++◌, ◌∷◌, List, ℕ, drop}
use Rattle.std.specs.List.{flat_map}
use Rattle.bgp_prefix.specs.Text.{colon_text, group_text}
use Rattle.bgp_text.specs.Lines.{Writes}
use Rattle.bgp_text.proofs.addresses.put_groups.Given as goal

-- what is written and what is left to write are the groups
abbrev pub invariant-loop-group : goal.invariant-loop-group
invariant-loop-group g l =
    (text : List ℕ) × Writes l.fn.lines l.lines text
    × (text ++ flat_map (λ group. 58 ∷ group_text group) (drop l.group-index l.others) ≡ colon_text l.fn.groups)
