use Rattle.bgp_text.proofs.Pieces.{Joins, and_then}
use Rattle.bgp_list.proofs.connection.put_as.Goals as goal

pub returns-in-Some : goal.returns-in-Some
returns-in-Some g c =
    let law : Joins g.W.Sink = record { joined = g.met.W.Sink.joined } in
    rw c.in-Some.is (and_then law c.put.ensures c.put_decimal.ensures)
