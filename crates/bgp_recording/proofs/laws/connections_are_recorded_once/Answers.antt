use Rattle.bgp_recording.proofs.Once.{recorded_once}
use Rattle.bgp_recording.proofs.laws.connections_are_recorded_once.Goals as goal

pub returns : goal.returns
returns c = recorded_once
