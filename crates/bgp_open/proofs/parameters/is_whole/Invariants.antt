use Rattle.std.proofs.Common.{◌↔◌, length}
use Rattle.bgp_open.specs.Triplet.{IsWhole}
use Rattle.bgp_open.proofs.parameters.is_whole.Given as goal

abbrev pub invariant-loop-behind : goal.invariant-loop-behind
invariant-loop-behind l = IsWhole l.rest ↔ IsWhole l.octets

abbrev pub decreases-loop-behind : goal.decreases-loop-behind
decreases-loop-behind l = length l.rest
