use Rattle.bgp_json_laws.proofs.Objects.{same_object}
use Rattle.bgp_json_laws.proofs.laws.each_object_has_its_octets.Goals as goal

pub returns : goal.returns
returns c = same_object
