use Rattle.bgp_orders.proofs.GoesOn.{walks_go_on}
use Rattle.bgp_orders.proofs.Walks.{orders_are_walks, walks_are_orders}
use Rattle.bgp_orders.proofs.laws.orders_are_walks.Goals as goal

pub returns-clause-walks : goal.returns-clause-walks
returns-clause-walks c = orders_are_walks

pub returns-clause-orders : goal.returns-clause-orders
returns-clause-orders c = walks_are_orders

pub returns-clause-go_on : goal.returns-clause-go_on
returns-clause-go_on c = walks_go_on
