use Rattle.bgp_recording_tool.proofs.Statuses.{no_is_told}
use Rattle.bgp_recording_tool.proofs.headline.a_no_is_told.Goals as goal

pub returns : goal.returns
returns c = no_is_told
