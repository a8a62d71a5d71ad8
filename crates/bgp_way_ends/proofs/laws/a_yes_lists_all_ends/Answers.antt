use Rattle.bgp_way_ends.proofs.AllEnds.{made_yes, way_yes}
use Rattle.bgp_way_ends.proofs.laws.a_yes_lists_all_ends.Goals as goal

pub returns : goal.returns
returns c =
    let ends = c.a_member_is_reached.ensures.ends in
    let each = c.records_tell_the_state.ensures.each in
    let show = c.runs_of_entries_are_whole.ensures.records in
    let before = c.a_yes_lists_all_ends_in_its_states.ensures in
    record { way = way_yes ends each show before.way; made = made_yes ends each show before.made }
