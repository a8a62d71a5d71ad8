use Rattle.std.proofs.Common.{◌≡◌}
use Rattle.bgp_attr.specs.First.{first_of}
use Rattle.bgp_attr.specs.Split.{attributes_of}
use Rattle.bgp_attr.proofs.first.first_of.Given as goal

abbrev pub invariant-loop-attr : goal.invariant-loop-attr
invariant-loop-attr l = first_of l.kind l.attr-iterator.attributes ≡ first_of l.kind (attributes_of l.field)
