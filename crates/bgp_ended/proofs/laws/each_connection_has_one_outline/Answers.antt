use Rattle.bgp_ended.proofs.OneOutline.{outlined_once}
use Rattle.bgp_ended.proofs.laws.each_connection_has_one_outline.Goals as goal

pub returns : goal.returns
returns c = outlined_once
