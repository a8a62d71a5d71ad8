use Rattle.std.proofs.Common.{append-nil}
use Rattle.bgp_names.proofs.Pieces.{Joins, and_then, nothing_yet}
use Rattle.bgp_why_parts.proofs.offers.put_word.Goals as goal

pub returns-then-not-is_offered-clause-writes : goal.returns-then-not-is_offered-clause-writes
returns-then-not-is_offered-clause-writes g c =
    rw c.if-not-is_offered.true (nothing_yet g.W.Sink g.met.W.Sink.nothing c.args.lines.now.outlet c.args.lines.now.held.items)

pub returns-clause-writes : goal.returns-clause-writes
returns-clause-writes g c =
    let law : Joins g.W.Sink = record { joined = g.met.W.Sink.joined } in
    rw (c.if-not-is_offered.false, append-nil) (and_then law c.put.ensures c.put-2.ensures)
