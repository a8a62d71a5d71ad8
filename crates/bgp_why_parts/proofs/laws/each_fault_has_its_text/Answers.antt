use Rattle.bgp_why_parts.proofs.OneText.{one_fault}
use Rattle.bgp_why_parts.proofs.laws.each_fault_has_its_text.Goals as goal

pub returns : goal.returns
returns c = one_fault
