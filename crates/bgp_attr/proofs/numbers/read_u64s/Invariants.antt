use Rattle.std.proofs.Common.{◌≡◌, ◌++◌, length}
use Rattle.bgp_attr.specs.Numbers.{items_in}
use Rattle.bgp_attr.proofs.numbers.read_u64s.Given as goal

abbrev pub invariant-loop-number : goal.invariant-loop-number
invariant-loop-number g l = l.numbers.items ++ items_in 8 l.rest ≡ items_in 8 l.octets

abbrev pub decreases-loop-number : goal.decreases-loop-number
decreases-loop-number g l = length l.rest
