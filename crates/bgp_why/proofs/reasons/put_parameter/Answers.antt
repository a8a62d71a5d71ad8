use Rattle.bgp_text.proofs.Pieces.{Joins, and_then}
use Rattle.bgp_why.proofs.reasons.put_parameter.Goals as goal

pub returns-clause-writes : goal.returns-clause-writes
returns-clause-writes g c =
    let law : Joins g.W.Sink = record { joined = g.met.W.Sink.joined } in
    rw c.if-not-is_other.false (and_then law c.put.ensures c.put-2.ensures)
