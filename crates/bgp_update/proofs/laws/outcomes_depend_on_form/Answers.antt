use Rattle.bgp_update.proofs.ReadAlike.{depends_on_form}
use Rattle.bgp_update.proofs.laws.outcomes_depend_on_form.Goals as goal

pub returns : goal.returns
returns c = record { form = depends_on_form }
