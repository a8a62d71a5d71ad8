use Rattle.bgp_names.proofs.Pieces.{Joins, and_then}
use Rattle.bgp_why_parts.proofs.updates.put_fault.Goals as goal

pub returns-in-DiscardedValue : goal.returns-in-DiscardedValue
returns-in-DiscardedValue g c =
    let law : Joins g.W.Sink = record { joined = g.met.W.Sink.joined } in
    rw c.in-DiscardedValue.is (and_then law c.put_value-in-DiscardedValue.ensures c.put-in-DiscardedValue.ensures)
