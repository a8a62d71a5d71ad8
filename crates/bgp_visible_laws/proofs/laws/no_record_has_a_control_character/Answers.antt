use Rattle.bgp_visible_laws.proofs.Lines.{record_lines}
use Rattle.bgp_visible_laws.proofs.laws.no_record_has_a_control_character.Goals as goal

pub returns : goal.returns
returns c = record_lines
