use Rattle.std.proofs.Common.{codes, refl}
use Rattle.bgp_names.specs.Attributes.{attribute_names, attribute_words}
use Rattle.bgp_names.proofs.OneName.{one_name}
use Rattle.bgp_names.proofs.laws.each_attribute_has_its_name.Goals as goal

pub returns : goal.returns
returns c = record { names = one_name (codes "attribute ") attribute_names refl; words = one_name (codes "attribute ") attribute_words refl }
