use Rattle.bgp_text.proofs.Pieces.{Joins, and_then}
use Rattle.bgp_speak_tool.proofs.pair_judging.put_answers.Goals as goal

pub returns-clause-writes : goal.returns-clause-writes
returns-clause-writes g c =
    let law : Joins g.W.Sink = record { joined = g.met.W.Sink.joined } in
    and_then law c.put.ensures (and_then law c.put_answer-one.ensures.writes (and_then law c.put-2.ensures c.put_answer-other.ensures.writes))

pub returns-clause-status : goal.returns-clause-status
returns-clause-status g c = cc
