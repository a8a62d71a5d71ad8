use Rattle.bgp_recording_tool.proofs.SameVerdict.{same_verdict}
use Rattle.bgp_recording_tool.proofs.laws.recordings_are_explained_as_judged.Goals as goal

pub returns : goal.returns
returns c = same_verdict c.recordings_are_made_once.ensures c.records_have_just_one_verdict.ensures.one
