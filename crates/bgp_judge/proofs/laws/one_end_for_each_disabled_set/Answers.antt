use Rattle.bgp_judge.proofs.Telling.{one_end}
use Rattle.bgp_judge.proofs.laws.one_end_for_each_disabled_set.Goals as goal

pub returns : goal.returns
returns c = one_end
