use Rattle.bgp_talk.proofs.NextCalls.{one_call_is_next}
use Rattle.bgp_talk.proofs.TalkLaws.{connect_is_asked_once}
use Rattle.bgp_talk.proofs.laws.a_talk_asks_one_thing.Goals as goal

pub returns-clause-next : goal.returns-clause-next
returns-clause-next c = one_call_is_next

pub returns-clause-connect : goal.returns-clause-connect
returns-clause-connect c = connect_is_asked_once
