use Rattle.bgp_recording_tool.proofs.YesShown.{each_end, each_of_another}
use Rattle.bgp_recording_tool.proofs.headline.each_end_is_shown.Goals as goal

pub returns : goal.returns
returns c = record { made = each_end; other = each_of_another c.runs_of_entries_are_whole.ensures.runs }
