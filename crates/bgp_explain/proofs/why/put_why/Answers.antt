use Rattle.bgp_text.proofs.Pieces.{Joins}
use Rattle.bgp_verdict_lines.proofs.Puts.{then_lines}
use Rattle.bgp_explain.proofs.why.put_why.Goals as goal

pub returns : goal.returns
returns g c =
    let law : Joins g.W.Sink = record { joined = g.met.W.Sink.joined } in
    then_lines law c.put_not_whole.ensures (then_lines law c.put_another.ensures (then_lines law c.put_state.ensures (then_lines law c.put_received.ensures
    (then_lines law c.put_may_come.ensures (then_lines law c.put_sent_already.ensures c.put_notes.ensures)))))
