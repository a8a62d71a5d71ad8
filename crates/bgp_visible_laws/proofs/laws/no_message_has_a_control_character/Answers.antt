use Rattle.bgp_visible_laws.proofs.Lines.{frame_lines}
use Rattle.bgp_visible_laws.proofs.laws.no_message_has_a_control_character.Goals as goal

pub returns : goal.returns
returns c = frame_lines
