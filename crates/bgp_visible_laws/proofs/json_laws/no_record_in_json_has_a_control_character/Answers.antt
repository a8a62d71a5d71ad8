use Rattle.bgp_visible_laws.proofs.JsonLines.{json_records}
use Rattle.bgp_visible_laws.proofs.json_laws.no_record_in_json_has_a_control_character.Goals as goal

pub returns : goal.returns
returns c = json_records
