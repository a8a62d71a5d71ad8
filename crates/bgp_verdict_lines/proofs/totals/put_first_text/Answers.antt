use Rattle.bgp_text.proofs.Pieces.{Joins, and_then}
use Rattle.bgp_verdict_lines.proofs.totals.put_first_text.Goals as goal

pub returns-in-Some : goal.returns-in-Some
returns-in-Some g c =
    let law : Joins g.W.Sink = record { joined = g.met.W.Sink.joined } in
    rw c.in-Some.is
    (and_then law c.put.ensures (and_then law c.put_address.ensures (and_then law c.put-in-Some.ensures c.put_address-in-Some.ensures)))
