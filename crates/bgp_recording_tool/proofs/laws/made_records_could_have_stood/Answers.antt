use Rattle.bgp_recording.specs.Captured.{records_of}
use Rattle.bgp_recording_tool.proofs.laws.made_records_could_have_stood.Goals as goal

pub returns : goal.returns
returns c config wanted packets segments number named count found more remarks possible told are =
    c.what_could_have_stood_is_told.ensures config (records_of told.judged.entries) count possible told.judged.is are
