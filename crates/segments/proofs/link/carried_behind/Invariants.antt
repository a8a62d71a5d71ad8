use Rattle.std.proofs.Common.{◌≡◌, length}
use Rattle.segments.specs.Link.{carried_behind}
use Rattle.segments.proofs.link.carried_behind.Given as goal

abbrev pub invariant-loop-rest : goal.invariant-loop-rest
invariant-loop-rest l = carried_behind l.kind l.rest ≡ carried_behind l.fn.ether_type l.fn.octets

abbrev pub decreases-loop-rest : goal.decreases-loop-rest
decreases-loop-rest l = length l.rest
