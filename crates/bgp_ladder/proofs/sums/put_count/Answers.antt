use Rattle.bgp_text.proofs.Pieces.{Joins, and_then}
use Rattle.bgp_ladder.proofs.sums.put_count.Goals as goal

pub returns : goal.returns
returns g c =
    let law : Joins g.W.Sink = record { joined = g.met.W.Sink.joined } in
    and_then law c.put_number.ensures (and_then law c.put_escaped.ensures c.put_kind.ensures)
