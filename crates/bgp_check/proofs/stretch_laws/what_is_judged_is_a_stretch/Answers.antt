use Rattle.bgp_check.proofs.Stretched.{judged_are_stretches}
use Rattle.bgp_check.proofs.stretch_laws.what_is_judged_is_a_stretch.Goals as goal

pub returns : goal.returns
returns c = judged_are_stretches
