use Rattle.bgp_update.proofs.Identifiers.{destinations_by_form}
use Rattle.bgp_update.proofs.laws.destinations_are_by_form.Goals as goal

pub returns : goal.returns
returns c = record { destinations = destinations_by_form }
