use Rattle.bgp_reason.proofs.Reasoning.{something_follows, no_reason}
use Rattle.bgp_reason.proofs.laws.each_no_has_a_reason.Goals as goal

pub returns : goal.returns
returns c = record {
  something = something_follows c.each_owed_want_can_be_met.ensures.met;
  reason = no_reason c.each_owed_want_can_be_met.ensures.met;
}
