use Rattle.bgp_text.proofs.Pieces.{Joins, and_then}
use Rattle.bgp_ended.specs.EndedLine.{who_and_how_text}
use Rattle.bgp_ended.proofs.ended_line.put_who_and_how.Goals as goal

pub returns : goal.returns
unfolding who_and_how_text
returns g c =
    let law : Joins g.W.Sink = record { joined = g.met.W.Sink.joined } in
    and_then law c.put_who.ensures (and_then law c.put.ensures (and_then law c.put_how.ensures c.put-2.ensures))
