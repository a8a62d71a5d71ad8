use Rattle.std.proofs.Common.{◌≡◌, ◌++◌, ◌∷◌, List, ℕ}
use Rattle.std.specs.List.{flat_map}
use Rattle.bgp_text.specs.Lines.{Writes}
use Rattle.bgp_text.specs.Text.{attribute_text, attributes_text}
use Rattle.bgp_text.proofs.updates.put_attributes.Given as goal

-- what is written and what is left to write are the attributes
abbrev pub invariant-loop-attr : goal.invariant-loop-attr
invariant-loop-attr g l =
    (text : List ℕ) × Writes l.fn.lines l.lines text
    × (text ++ flat_map (λ a. 32 ∷ attribute_text a) l.attr-iterator.attributes ≡ attributes_text l.fn.attributes.attributes)
