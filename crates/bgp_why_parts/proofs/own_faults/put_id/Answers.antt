use Rattle.bgp_names.proofs.Pieces.{Joins, and_then}
use Rattle.bgp_why_parts.proofs.own_faults.put_id.Goals as goal

pub returns-clause-writes : goal.returns-clause-writes
returns-clause-writes g c =
    let law : Joins g.W.Sink = record { joined = g.met.W.Sink.joined } in
    rw c.if-not-id.false (and_then law c.put.ensures c.put-2.ensures)
