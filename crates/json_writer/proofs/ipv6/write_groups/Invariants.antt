use Rattle.std.proofs.Common.{◌≡◌, ◌++◌, ◌∷◌, ◌+◌, ◌*◌, ◌≤◌, List, ℕ, drop}
use Rattle.std.specs.List.{flat_map}
use Rattle.bgp_prefix.specs.Text.{colon_text, group_text}
use Rattle.json_writer.specs.Places.{Puts}
use Rattle.json_writer.proofs.ipv6.write_groups.Given as goal

-- what is written and what is left to write are the groups
abbrev pub invariant-loop-group : goal.invariant-loop-group
invariant-loop-group l =
    (text : List ℕ) × Puts l.fn.places l.at l.places l.end text
    × (text ++ flat_map (λ group. 58 ∷ group_text group) (drop l.group-index l.others) ≡ colon_text l.fn.groups)
    × (l.end ≤ l.at + 4 + 5 * l.group-index)
