use Rattle.bgp_import.proofs.Once.{made_once}
use Rattle.bgp_import.proofs.laws.recordings_are_made_once.Goals as goal

pub returns : goal.returns
returns c = made_once c.connections_are_recorded_once.ensures
