use Rattle.bgp_why_laws.proofs.Reasons.{names_visible}
use Rattle.bgp_why_laws.proofs.laws.each_name_is_visible.Goals as goal

pub returns : goal.returns
returns c = names_visible
