use Rattle.bgp_recording_tool.proofs.UnfinishedSo.{unfinished_is_so}
use Rattle.bgp_recording_tool.proofs.headline.what_is_unfinished_is_so.Goals as goal

pub returns : goal.returns
returns c = unfinished_is_so
