use Rattle.bgp_text.proofs.Pieces.{Joins}
use Rattle.bgp_verdict_lines.proofs.Puts.{then_lines}
use Rattle.bgp_recording_tool.proofs.connection.put_over_all.Goals as goal

pub returns-clause-put : goal.returns-clause-put
returns-clause-put g c =
    let law : Joins g.W.Sink = record { joined = g.met.W.Sink.joined } in
    let (more, is_more, put) = c.put_more.ensures in (more, is_more, then_lines law c.put_unfinished.ensures put)
