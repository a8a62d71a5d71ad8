use Rattle.bgp_explain.proofs.LastReceived.{last_is_told}
use Rattle.bgp_explain.proofs.laws.the_last_message_is_told.Goals as goal

pub returns : goal.returns
returns c = last_is_told c.records_tell_one_by_one.ensures.one_more
