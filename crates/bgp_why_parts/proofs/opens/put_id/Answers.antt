use Rattle.std.proofs.Common.{append-nil}
use Rattle.bgp_names.proofs.Pieces.{Joins, and_then, nothing_yet}
use Rattle.bgp_why_parts.proofs.opens.put_id.Goals as goal

pub returns-in_default-clause-writes : goal.returns-in_default-clause-writes
returns-in_default-clause-writes g c =
    rw c.in_default.is (nothing_yet g.W.Sink g.met.W.Sink.nothing c.args.lines.now.outlet c.args.lines.now.held.items)

pub returns-clause-writes : goal.returns-clause-writes
returns-clause-writes g c =
    let law : Joins g.W.Sink = record { joined = g.met.W.Sink.joined } in
    rw (c.in-Some.is, append-nil) (and_then law c.put.ensures (and_then law c.put-2.ensures (and_then law c.put_ipv4.ensures (and_then law c.put-3.ensures c.put_ipv4-2.ensures))))
