use Rattle.bgp_visible_laws.proofs.Lines.{rest_lines}
use Rattle.bgp_visible_laws.proofs.laws.no_rest_has_a_control_character.Goals as goal

pub returns : goal.returns
returns c = rest_lines
