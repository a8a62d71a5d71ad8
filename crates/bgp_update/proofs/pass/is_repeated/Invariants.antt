use Rattle.std.proofs.Common.{◌≡◌, is_some, if◌then◌else◌}
use Rattle.bgp_attr.specs.First.{first_of}
use Rattle.bgp_attr.specs.Split.{attributes_of}
use Rattle.bgp_update.specs.Found.{is_repeated}
use Rattle.bgp_update.proofs.pass.is_repeated.Given as goal

abbrev pub invariant-loop-attr : goal.invariant-loop-attr
invariant-loop-attr l =
    (if l.is_there then is_some (first_of l.kind l.attr-iterator.attributes) else is_repeated l.kind l.attr-iterator.attributes)
    ≡ is_repeated l.kind (attributes_of l.field)
