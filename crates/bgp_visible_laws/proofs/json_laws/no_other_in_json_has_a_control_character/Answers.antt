use Rattle.bgp_visible_laws.proofs.JsonLines.{json_faults, json_refusals, json_rests}
use Rattle.bgp_visible_laws.proofs.Refusals.{json_recordings}
use Rattle.bgp_visible_laws.proofs.json_laws.no_other_in_json_has_a_control_character.Goals as goal

pub returns-clause-faults : goal.returns-clause-faults
returns-clause-faults c = json_faults

pub returns-clause-rests : goal.returns-clause-rests
returns-clause-rests c = json_rests

pub returns-clause-refusals : goal.returns-clause-refusals
returns-clause-refusals c = json_refusals

pub returns-clause-recordings : goal.returns-clause-recordings
returns-clause-recordings c = json_recordings
