use Rattle.bgp_talk.proofs.TalkLaws.{turns_are_reads, reads_have_room, nothing_follows_the_end}
use Rattle.bgp_talk.proofs.laws.a_talk_reads_in_its_turns.Goals as goal

pub returns-clause-turns : goal.returns-clause-turns
returns-clause-turns c = turns_are_reads

pub returns-clause-room : goal.returns-clause-room
returns-clause-room c = reads_have_room

pub returns-clause-rest : goal.returns-clause-rest
returns-clause-rest c = nothing_follows_the_end
