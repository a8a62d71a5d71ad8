use Rattle.bgp_instead.proofs.OfAKind.{each_is_of_a_kind}
use Rattle.bgp_instead.proofs.laws.each_message_is_of_a_kind.Goals as goal

pub returns : goal.returns
returns c = each_is_of_a_kind c.each_owed_want_can_be_met.ensures.met c.empty_is_clean.ensures.empty
