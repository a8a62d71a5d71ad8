use Rattle.std.proofs.Common.{arith}
use Rattle.bgp_open.proofs.config.Config.new.Goals as goal

pub invariant_of-result-clause-fits : goal.invariant_of-result-clause-fits
invariant_of-result-clause-fits c = record {
  local_as = omega arith;
  peer_as = omega arith;
  local_id = omega arith;
  hold = omega arith;
  large_hold = omega arith;
}
