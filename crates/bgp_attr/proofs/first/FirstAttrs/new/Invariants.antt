use Rattle.std.proofs.Common.{◌≡◌}
use Rattle.bgp_attr.specs.First.{first_of, first_at}
use Rattle.std.specs.Option.{option_or}
use Rattle.bgp_attr.specs.Split.{attributes_of}
use Rattle.bgp_attr.specs.declared.types.AttrType.{AttrType}
use Rattle.bgp_attr.specs.Types.{type_number}
use Rattle.bgp_attr.proofs.first.FirstAttrs.new.Given as goal

abbrev pub invariant-loop-attr : goal.invariant-loop-attr
invariant-loop-attr l =
    (t : AttrType) → option_or (first_at l.first t) (first_of (type_number t) l.attr-iterator.attributes) ≡ first_of (type_number t) (attributes_of l.field)
