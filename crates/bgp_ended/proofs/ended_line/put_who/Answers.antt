use Rattle.std.proofs.Common.{inl, inr}
use Rattle.bgp_text.proofs.Pieces.{Joins, and_then}
use Rattle.bgp_ended.proofs.ended_line.put_who.Goals as goal

pub returns-in-Notified : goal.returns-in-Notified
returns-in-Notified g c =
    let law : Joins g.W.Sink = record { joined = g.met.W.Sink.joined } in
    let text = and_then law c.put.ensures c.put_endpoint.ensures in
    elim c.in-Notified.is [ inl notified ↦ rw notified.1 text | inr closed ↦ rw closed.1 text ]
