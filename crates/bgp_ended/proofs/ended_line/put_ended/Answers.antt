use Rattle.bgp_text.proofs.Pieces.{Joins, and_then}
use Rattle.bgp_ended.specs.EndedLine.{ended_line}
use Rattle.bgp_ended.proofs.ended_line.put_ended.Goals as goal

pub returns : goal.returns
unfolding ended_line
returns g c =
    let law : Joins g.W.Sink = record { joined = g.met.W.Sink.joined } in
    and_then law c.put.ensures (and_then law c.put_decimal.ensures (and_then law c.put-2.ensures (and_then law c.put_short.ensures c.put_who_and_how.ensures)))
