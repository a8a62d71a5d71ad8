use Rattle.std.proofs.Common.{refl}
use Rattle.bgp_explain.proofs.MomentsKept.{moments_of_none}
use Rattle.bgp_explain.proofs.moments.Moments.nothing.Goals as goal

pub returns-clause-are : goal.returns-clause-are
returns-clause-are c = λ config. record { first = refl; told_by = refl; last_received = refl; last = refl; notification = λ sent is. moments_of_none config sent is }
