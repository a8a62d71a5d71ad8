use Rattle.bgp_way_ends.proofs.WayEnds.{entries_tell_all, one_tells_all, ways_end_alike}
use Rattle.bgp_way_ends.proofs.laws.whole_ways_end_alike.Goals as goal

pub returns : goal.returns
returns c =
    let alike = ways_end_alike c.a_member_is_reached.ensures.ends c.records_tell_the_state.ensures.each in
    let all = one_tells_all alike in
    record { ways = alike; one = all; entries = entries_tell_all c.runs_of_entries_are_whole.ensures.records all }
