use Rattle.bgp_text.proofs.Pieces.{Joins, and_then}
use Rattle.bgp_why.proofs.asked.put_asked.Goals as goal

pub returns-in-InvalidOpen : goal.returns-in-InvalidOpen
returns-in-InvalidOpen g c =
    let law : Joins g.W.Sink = record { joined = g.met.W.Sink.joined } in
    rw c.in-InvalidOpen.is (and_then law c.put-in-InvalidOpen.ensures c.put_reasons.ensures)
