use Rattle.bgp_recording.proofs.Joining.{made_are_the_streams}
use Rattle.bgp_recording.proofs.laws.made_records_are_the_streams.Goals as goal

pub returns : goal.returns
returns c = made_are_the_streams
