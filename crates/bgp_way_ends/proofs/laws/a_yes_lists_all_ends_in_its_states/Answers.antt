use Rattle.bgp_way_ends.proofs.Connections.{made_lists_all, way_lists_all}
use Rattle.bgp_way_ends.proofs.laws.a_yes_lists_all_ends_in_its_states.Goals as goal

pub returns : goal.returns
returns c =
    let ends = c.a_member_is_reached.ensures.ends in
    let each = c.records_tell_the_state.ensures.each in
    let show = c.runs_of_entries_are_whole.ensures.records in
    record { way = way_lists_all ends each show; made = made_lists_all ends each show }
