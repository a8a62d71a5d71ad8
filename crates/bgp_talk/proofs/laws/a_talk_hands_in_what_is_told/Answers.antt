use Rattle.bgp_talk.proofs.TalkLaws.{inputs_handed_in, no_stop_before_the_end, stop_is_last, failure_stands_next}
use Rattle.bgp_talk.proofs.laws.a_talk_hands_in_what_is_told.Goals as goal

pub returns-clause-inputs : goal.returns-clause-inputs
returns-clause-inputs c = inputs_handed_in

pub returns-clause-before : goal.returns-clause-before
returns-clause-before c = no_stop_before_the_end

pub returns-clause-stop : goal.returns-clause-stop
returns-clause-stop c = stop_is_last

pub returns-clause-failure : goal.returns-clause-failure
returns-clause-failure c = failure_stands_next
