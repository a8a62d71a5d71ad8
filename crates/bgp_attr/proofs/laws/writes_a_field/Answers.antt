use Rattle.bgp_attr.proofs.WrittenField.{is_a_field}
use Rattle.bgp_attr.proofs.laws.writes_a_field.Goals as goal

pub returns : goal.returns
returns c = is_a_field
