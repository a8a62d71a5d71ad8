use Rattle.bgp_visible_laws.proofs.Lines.{fault_lines}
use Rattle.bgp_visible_laws.proofs.laws.no_fault_has_a_control_character.Goals as goal

pub returns : goal.returns
returns c = fault_lines
