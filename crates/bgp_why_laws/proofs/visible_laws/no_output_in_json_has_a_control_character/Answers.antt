use Rattle.bgp_why_laws.proofs.JsonLines.{outputs_visible, printed_visible}
use Rattle.bgp_why_laws.proofs.visible_laws.no_output_in_json_has_a_control_character.Goals as goal

pub returns-clause-lines : goal.returns-clause-lines
returns-clause-lines c = outputs_visible

pub returns-clause-printed : goal.returns-clause-printed
returns-clause-printed c = printed_visible
