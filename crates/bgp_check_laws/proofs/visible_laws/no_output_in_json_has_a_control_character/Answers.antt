use Rattle.bgp_check_laws.proofs.VisibleLines.{outputs_visible, printed_visible}
use Rattle.bgp_check_laws.proofs.visible_laws.no_output_in_json_has_a_control_character.Goals as goal

pub returns : goal.returns
returns c = record { lines = outputs_visible; printed = printed_visible }
