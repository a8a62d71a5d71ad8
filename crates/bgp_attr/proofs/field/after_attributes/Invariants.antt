use Rattle.std.proofs.Common.{◌≡◌, length}
use Rattle.bgp_attr.specs.Split.{rest_of}
use Rattle.bgp_attr.proofs.field.after_attributes.Given as goal

abbrev pub invariant-loop-after : goal.invariant-loop-after
invariant-loop-after l = rest_of l.rest ≡ rest_of l.field

abbrev pub decreases-loop-after : goal.decreases-loop-after
decreases-loop-after l = length l.rest
