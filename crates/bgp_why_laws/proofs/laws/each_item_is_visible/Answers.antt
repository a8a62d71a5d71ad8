use Rattle.bgp_why_laws.proofs.Reasons.{items_visible}
use Rattle.bgp_why_laws.proofs.laws.each_item_is_visible.Goals as goal

pub returns : goal.returns
returns c = items_visible
