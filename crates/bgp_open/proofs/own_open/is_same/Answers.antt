use Rattle.bgp_open.proofs.OneOffer.{same_parts}
use Rattle.bgp_open.proofs.own_open.is_same.Goals as goal

pub returns : goal.returns
returns c = rw c.eq.ensures (same_parts c.args.offer c.args.other)
