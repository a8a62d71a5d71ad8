use Rattle.bgp_list_laws.proofs.VisibleLists.{lines_visible, lists_visible, refusals_visible}
use Rattle.bgp_list_laws.proofs.visible_laws.no_line_in_json_has_a_control_character.Goals as goal

pub returns : goal.returns
returns c = record { lines = lines_visible; refusals = refusals_visible; lists = lists_visible }
