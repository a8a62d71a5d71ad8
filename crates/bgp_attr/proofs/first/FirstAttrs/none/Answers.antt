use Rattle.std.proofs.Common.{refl}
use Rattle.bgp_attr.proofs.FirstNoted.{none_at}
use Rattle.bgp_attr.proofs.first.FirstAttrs.none.Goals as goal

pub invariant_of-result : goal.invariant_of-result
invariant_of-result c = (refl, λ k. none_at 33 k)
