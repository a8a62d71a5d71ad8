use Rattle.std.proofs.Common.{append-nil}
use Rattle.bgp_names.proofs.Pieces.{Joins, and_then}
use Rattle.bgp_why_parts.proofs.notifications.put_early.Goals as goal

pub returns-in-Some : goal.returns-in-Some
returns-in-Some g c =
    let law : Joins g.W.Sink = record { joined = g.met.W.Sink.joined } in
    rw (c.in-Some.is, append-nil) (and_then law c.put.ensures c.put-in-Some.ensures)
