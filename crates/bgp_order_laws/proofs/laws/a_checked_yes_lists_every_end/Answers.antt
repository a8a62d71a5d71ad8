use Rattle.bgp_order_laws.proofs.Checked.{checked_yes}
use Rattle.bgp_order_laws.proofs.laws.a_checked_yes_lists_every_end.Goals as goal

pub returns : goal.returns
returns c = checked_yes c.a_yes_lists_all_ends.ensures.way c.runs_of_entries_are_whole.ensures.records c.whole_ways_end_in_one_state.ensures.ends
