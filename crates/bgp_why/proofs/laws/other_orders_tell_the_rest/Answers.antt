use Rattle.bgp_why.proofs.Besides.{the_rest}
use Rattle.bgp_why.proofs.laws.other_orders_tell_the_rest.Goals as goal

pub returns : goal.returns
returns c = the_rest
