use Rattle.bgp_why_parts.proofs.OneText.{one_set}
use Rattle.bgp_why_parts.proofs.laws.each_set_of_families_has_its_text.Goals as goal

pub returns : goal.returns
returns c = one_set
