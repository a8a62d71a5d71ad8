use Rattle.std.proofs.Common.{◌≡◌, ◌++◌, List, ℕ, codes}
use Rattle.std.specs.List.{flat_map}
use Rattle.bgp_text.specs.Lines.{Writes}
use Rattle.bgp_attr.specs.Field.{Attribute}
use Rattle.bgp_lines.specs.UpdateLine.{named_attribute}
use Rattle.bgp_lines.proofs.update_line.put_attributes.Given as goal

-- what is written and what is left to write are the attributes
abbrev pub invariant-loop-attr : goal.invariant-loop-attr
invariant-loop-attr g l =
    (text : List ℕ) × Writes l.fn.lines l.lines text
    × (text ++ flat_map (λ (a : Attribute). codes " | " ++ named_attribute l.fn.reading a) l.attr-iterator.attributes
    ≡ flat_map (λ (a : Attribute). codes " | " ++ named_attribute l.fn.reading a) l.fn.attributes.attributes)
