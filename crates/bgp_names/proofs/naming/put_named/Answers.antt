use Rattle.bgp_text.proofs.Pieces.{Joins, and_then}
use Rattle.bgp_names.proofs.naming.put_named.Goals as goal

pub returns-in-None : goal.returns-in-None
returns-in-None g c =
    let law : Joins g.W.Sink = record { joined = g.met.W.Sink.joined } in
    rw c.in-None.is (and_then law c.put-in-None.ensures c.put_decimal.ensures)
