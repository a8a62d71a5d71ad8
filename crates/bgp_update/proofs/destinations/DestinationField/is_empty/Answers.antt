use Rattle.bgp_update.proofs.DestinationLists.{no_destinations}
use Rattle.bgp_update.proofs.destinations.DestinationField.is_empty.Goals as goal

pub returns : goal.returns
returns c = no_destinations c.args.self.identified c.args.self.family c.args.self.octets.now c.is_empty.result c.is_empty.ensures
