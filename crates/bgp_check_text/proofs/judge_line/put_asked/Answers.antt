use Rattle.bgp_text.proofs.Pieces.{Joins, and_then}
use Rattle.bgp_check_text.specs.JudgeLine.{asked_text}
use Rattle.bgp_check_text.proofs.judge_line.put_asked.Goals as goal

pub returns : goal.returns
unfolding asked_text
returns g c =
    let law : Joins g.W.Sink = record { joined = g.met.W.Sink.joined } in
    and_then law c.put_number.ensures (and_then law c.put_number-2.ensures (and_then law c.put_number-3.ensures c.put_number-4.ensures))
