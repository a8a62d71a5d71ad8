use Rattle.bgp_talk.proofs.TalkLaws.{octets_go_first}
use Rattle.bgp_talk.proofs.Taken.{octets_are_taken, octets_are_the_cores}
use Rattle.bgp_talk.proofs.laws.a_talk_writes_what_is_sent.Goals as goal

pub returns-clause-first : goal.returns-clause-first
returns-clause-first c = octets_go_first

pub returns-clause-moment : goal.returns-clause-moment
returns-clause-moment c = octets_are_the_cores

pub returns-clause-taken : goal.returns-clause-taken
returns-clause-taken c = octets_are_taken
