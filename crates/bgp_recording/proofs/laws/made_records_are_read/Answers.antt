use Rattle.bgp_recording.proofs.Capturing.{made_are_read}
use Rattle.bgp_recording.proofs.laws.made_records_are_read.Goals as goal

pub returns : goal.returns
returns c = made_are_read
