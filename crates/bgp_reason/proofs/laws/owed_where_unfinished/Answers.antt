use Rattle.bgp_reason.proofs.Reasoning.{message_ends, owed_unfinished}
use Rattle.bgp_reason.proofs.laws.owed_where_unfinished.Goals as goal

pub returns : goal.returns
returns c = record {
  message = message_ends c.each_owed_want_can_be_met.ensures.met;
  owed = owed_unfinished c.each_owed_want_can_be_met.ensures.met;
}
