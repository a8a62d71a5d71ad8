use Rattle.bgp_recording_tool.proofs.ToldAlike.{tells_as}
use Rattle.bgp_recording_tool.proofs.YesShown.{agree}
use Rattle.bgp_recording_tool.proofs.headline.import_and_judge_agree.Goals as goal

pub returns : goal.returns
returns c =
    let reading = c.each_capture_has_one_reading.ensures in
    let agrees = agree c.made_records_are_read.ensures reading.spelling reading.fault reading.never_both c.records_have_just_one_verdict.ensures.one c.recordings_are_made_once.ensures in record {
      agree = agrees;
      told = tells_as agrees;
    }
