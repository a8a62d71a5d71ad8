use Rattle.bgp_reason.proofs.AskedTell.{asked_tell}
use Rattle.bgp_reason.proofs.laws.one_record_of_each_kind_tells_all.Goals as goal

pub returns : goal.returns
returns c = asked_tell c.each_owed_want_can_be_met.ensures.met c.empty_is_clean.ensures.empty
