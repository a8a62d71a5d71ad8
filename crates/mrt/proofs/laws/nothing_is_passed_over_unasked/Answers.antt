use Rattle.mrt.proofs.OtherRules.{nothing_passed_over}
use Rattle.mrt.proofs.laws.nothing_is_passed_over_unasked.Goals as goal

pub returns : goal.returns
returns c = nothing_passed_over
