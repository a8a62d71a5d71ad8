use Rattle.bgp_json_laws.proofs.Attributes.{same_attribute}
use Rattle.bgp_json_laws.proofs.laws.each_attribute_has_its_object.Goals as goal

pub returns : goal.returns
returns c = same_attribute
