use Rattle.std.proofs.Common.{codes, refl}
use Rattle.bgp_names.specs.States.{state_names}
use Rattle.bgp_names.proofs.OneName.{one_name}
use Rattle.bgp_names.proofs.laws.each_state_has_its_name.Goals as goal

pub returns : goal.returns
returns c = one_name (codes "state ") state_names refl
