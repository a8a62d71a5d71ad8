use Rattle.std.proofs.Common.{◌≡◌, ◌≤◌, ◌+◌, drop}
use Rattle.bgp_ladder.specs.Batch.{zeros}
use Rattle.bgp_ladder.proofs.batch.few_zeros.Given as goal

-- those so far are counted
abbrev pub invariant-loop-octet : goal.invariant-loop-octet
invariant-loop-octet l = (l.count + zeros (drop l.octet-index l.octets) ≡ zeros l.octets) × (l.count ≤ l.octet-index)
