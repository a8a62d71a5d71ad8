use Rattle.bgp_list_laws.proofs.VisibleLists.{captures_visible, sessions_visible}
use Rattle.bgp_list_laws.proofs.visible_laws.no_session_in_json_has_a_control_character.Goals as goal

pub returns : goal.returns
returns c = record { sessions = sessions_visible; captures = captures_visible }
