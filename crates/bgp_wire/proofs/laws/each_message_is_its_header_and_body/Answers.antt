use Rattle.bgp_wire.proofs.HeaderAndBody.{message_is_header_and_body}
use Rattle.bgp_wire.proofs.laws.each_message_is_its_header_and_body.Goals as goal

pub returns : goal.returns
returns c = message_is_header_and_body
