use Rattle.bgp_part_texts.proofs.Faults.{one_faults}
use Rattle.bgp_part_texts.proofs.laws.each_own_fault_has_its_text.Goals as goal

pub returns : goal.returns
returns c = one_faults
