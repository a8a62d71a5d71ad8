use Rattle.bgp_recording_tool.proofs.OneReason.{one_reason}
use Rattle.bgp_recording_tool.proofs.laws.each_recording_is_explained_in_one_way.Goals as goal

pub returns : goal.returns
returns c =
    one_reason c.each_reason_has_one_text.ensures c.made_records_are_read.ensures c.recordings_are_made_once.ensures c.records_have_just_one_verdict.ensures.one
