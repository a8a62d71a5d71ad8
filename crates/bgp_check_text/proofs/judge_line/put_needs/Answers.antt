use Rattle.bgp_text.proofs.Pieces.{Joins, and_then}
use Rattle.bgp_check_text.specs.JudgeLine.{needs_text}
use Rattle.bgp_check_text.proofs.judge_line.put_needs.Goals as goal

pub returns : goal.returns
unfolding needs_text
returns g c =
    let law : Joins g.W.Sink = record { joined = g.met.W.Sink.joined } in
    and_then law c.put.ensures (and_then law c.put_decimal.ensures (and_then law c.put-2.ensures (and_then law c.put_decimal-2.ensures
    (and_then law c.put-3.ensures c.put_ipv4.ensures))))
