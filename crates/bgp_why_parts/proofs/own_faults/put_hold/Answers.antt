use Rattle.std.proofs.Common.{append-nil}
use Rattle.bgp_names.proofs.Pieces.{Joins, and_then}
use Rattle.bgp_why_parts.proofs.own_faults.put_hold.Goals as goal

pub returns-in-Some : goal.returns-in-Some
returns-in-Some g c =
    let law : Joins g.W.Sink = record { joined = g.met.W.Sink.joined } in
    rw (c.in-Some.is, append-nil) (and_then law c.put.ensures (and_then law c.put-in-Some.ensures c.put_decimal.ensures))
