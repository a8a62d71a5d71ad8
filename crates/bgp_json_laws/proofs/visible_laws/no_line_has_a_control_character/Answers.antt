use Rattle.bgp_json_laws.proofs.Visible.{lines_are_visible}
use Rattle.bgp_json_laws.proofs.visible_laws.no_line_has_a_control_character.Goals as goal

pub returns : goal.returns
returns c = lines_are_visible
