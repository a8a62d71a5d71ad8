use Rattle.bgp_orders.proofs.Reached.{explained_is_reached, reached_is_explained}
use Rattle.bgp_orders.proofs.laws.explained_messages_are_reached.Goals as goal

pub returns-clause-reached : goal.returns-clause-reached
returns-clause-reached c = explained_is_reached c.each_owed_want_can_be_met.ensures.met

pub returns-clause-explained : goal.returns-clause-explained
returns-clause-explained c = reached_is_explained c.each_owed_want_can_be_met.ensures.met
