use Rattle.bgp_json_laws.proofs.Capabilities.{same_capability}
use Rattle.bgp_json_laws.proofs.laws.each_capability_has_its_object.Goals as goal

pub returns : goal.returns
returns c = same_capability
