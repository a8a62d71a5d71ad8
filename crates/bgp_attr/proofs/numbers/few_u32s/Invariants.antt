use Rattle.std.proofs.Common.{◌≡◌, ◌+◌, ◌/◌, ◌≤◌, ◌++◌, length}
use Rattle.bgp_attr.specs.Numbers.{items_in}
use Rattle.bgp_attr.proofs.numbers.few_u32s.Given as goal

abbrev pub invariant-loop-number : goal.invariant-loop-number
invariant-loop-number l = record {
  so_far : l.numbers.items ++ items_in 4 l.rest ≡ items_in 4 l.octets;
  room : length l.numbers.items + length l.rest / 4 ≤ 8;
}

abbrev pub decreases-loop-number : goal.decreases-loop-number
decreases-loop-number l = length l.rest
