use Rattle.bgp_way_ends.proofs.WayEnds.{one_for_each}
use Rattle.bgp_way_ends.proofs.laws.one_way_for_each_state_is_enough.Goals as goal

pub returns : goal.returns
returns c = one_for_each c.whole_ways_end_alike.ensures.one c.whole_ways_are_reached.ensures.reached
