use Rattle.bgp_recording_tool.proofs.OverAll.{over_all}
use Rattle.bgp_recording_tool.proofs.headline.what_is_printed_is_over_all_orders.Goals as goal

pub returns : goal.returns
returns c = over_all c.runs_of_entries_are_whole.ensures.runs
