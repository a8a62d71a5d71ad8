use Rattle.bgp_update.proofs.ReadAlike.{peers_read_alike}
use Rattle.bgp_update.proofs.laws.peers_read_alike.Goals as goal

pub returns : goal.returns
returns c = record { alike = peers_read_alike }
