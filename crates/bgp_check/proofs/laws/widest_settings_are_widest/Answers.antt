use Rattle.bgp_check.proofs.WidestMade.{made}
use Rattle.bgp_check.proofs.laws.widest_settings_are_widest.Goals as goal

pub returns : goal.returns
returns c = made
