use Rattle.bgp_check_laws.proofs.VisibleLines.{lines_visible}
use Rattle.bgp_check_laws.proofs.visible_laws.no_line_in_json_has_a_control_character.Goals as goal

pub returns : goal.returns
returns c = lines_visible
