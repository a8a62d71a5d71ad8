use Rattle.bgp_why_laws.proofs.Reasons.{deeds_visible}
use Rattle.bgp_why_laws.proofs.laws.each_deed_is_visible.Goals as goal

pub returns : goal.returns
returns c = deeds_visible
