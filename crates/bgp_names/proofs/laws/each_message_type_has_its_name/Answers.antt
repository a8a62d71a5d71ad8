use Rattle.bgp_names.proofs.OneName.{one_type}
use Rattle.bgp_names.proofs.laws.each_message_type_has_its_name.Goals as goal

pub returns : goal.returns
returns c = one_type
