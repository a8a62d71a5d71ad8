use Rattle.bgp_text.proofs.Pieces.{Joins, and_then}
use Rattle.bgp_why.proofs.reasons.put_reasons.Goals as goal

pub returns-in-Version : goal.returns-in-Version
returns-in-Version g c =
    let law : Joins g.W.Sink = record { joined = g.met.W.Sink.joined } in
    rw c.in-Version.is (and_then law c.put.ensures c.put_decimal.ensures)
