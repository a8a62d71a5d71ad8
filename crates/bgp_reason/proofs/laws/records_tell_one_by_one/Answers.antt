use Rattle.bgp_reason.proofs.Telling.{one_more, state_so}
use Rattle.bgp_reason.proofs.laws.records_tell_one_by_one.Goals as goal

pub returns : goal.returns
returns c = record { one_more = one_more; state = state_so }
