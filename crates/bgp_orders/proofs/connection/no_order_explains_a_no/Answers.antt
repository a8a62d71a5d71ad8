use Rattle.bgp_orders.proofs.NoOrder.{no_order_explains}
use Rattle.bgp_orders.proofs.connection.no_order_explains_a_no.Goals as goal

pub returns : goal.returns
returns c = no_order_explains
