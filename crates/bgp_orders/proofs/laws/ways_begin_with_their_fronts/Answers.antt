use Rattle.bgp_orders.proofs.Reached.{some_way}
use Rattle.bgp_orders.proofs.Ways.{fronts_begin_ways, made_is_a_way}
use Rattle.bgp_orders.proofs.laws.ways_begin_with_their_fronts.Goals as goal

pub returns-clause-made : goal.returns-clause-made
returns-clause-made c = made_is_a_way

pub returns-clause-fronts : goal.returns-clause-fronts
returns-clause-fronts c = fronts_begin_ways

pub returns-clause-some : goal.returns-clause-some
returns-clause-some c = some_way
