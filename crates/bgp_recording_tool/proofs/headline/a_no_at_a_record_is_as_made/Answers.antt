use Rattle.bgp_recording_tool.proofs.AsMade.{as_made}
use Rattle.bgp_recording_tool.proofs.headline.a_no_at_a_record_is_as_made.Goals as goal

pub returns : goal.returns
returns c = as_made
