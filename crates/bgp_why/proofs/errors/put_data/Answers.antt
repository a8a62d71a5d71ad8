use Rattle.bgp_text.proofs.Pieces.{Joins, and_then}
use Rattle.bgp_why.proofs.errors.put_data.Goals as goal

pub returns-in-Octet : goal.returns-in-Octet
returns-in-Octet g c =
    let law : Joins g.W.Sink = record { joined = g.met.W.Sink.joined } in
    rw c.in-Octet.is (and_then law c.put-in-Octet.ensures c.put_digits.ensures)
