use Rattle.bgp_update.proofs.NextHops.{next_hops_by_form}
use Rattle.bgp_update.proofs.laws.next_hops_are_by_form.Goals as goal

pub returns : goal.returns
returns c = record { next_hops = next_hops_by_form }
