use Rattle.bgp_way_ends.proofs.AllEnds.{in_one_state, tells_all}
use Rattle.bgp_way_ends.proofs.laws.whole_ways_end_in_one_state.Goals as goal

pub returns : goal.returns
returns c =
    let state = in_one_state c.a_member_is_reached.ensures.ends c.records_tell_the_state.ensures.each in
    record { state = state; ends = tells_all state c.whole_ways_end_alike.ensures.one }
