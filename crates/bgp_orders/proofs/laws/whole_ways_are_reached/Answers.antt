use Rattle.bgp_orders.proofs.Reached.{reached_is_whole, whole_is_reached}
use Rattle.bgp_orders.proofs.laws.whole_ways_are_reached.Goals as goal

pub returns-clause-reached : goal.returns-clause-reached
returns-clause-reached c = whole_is_reached c.each_owed_want_can_be_met.ensures.met

pub returns-clause-whole : goal.returns-clause-whole
returns-clause-whole c = reached_is_whole c.each_owed_want_can_be_met.ensures.met
