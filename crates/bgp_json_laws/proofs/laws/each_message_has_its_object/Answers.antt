use Rattle.bgp_json_laws.proofs.Messages.{same_message}
use Rattle.bgp_json_laws.proofs.laws.each_message_has_its_object.Goals as goal

pub returns : goal.returns
returns c = same_message
