use Rattle.std.proofs.Common.{◌≡◌, ◌≤◌, ◌+◌, length}
use Rattle.bgp_ladder.specs.Batch.{zeros}
use Rattle.bgp_ladder.proofs.batch.zeros_in.Given as goal

-- those so far are counted
abbrev pub invariant-loop-rest : goal.invariant-loop-rest
invariant-loop-rest l = (l.count + zeros l.rest ≡ zeros l.octets) × (l.count + length l.rest ≤ length l.octets)

abbrev pub decreases-loop-rest : goal.decreases-loop-rest
decreases-loop-rest l = length l.rest
