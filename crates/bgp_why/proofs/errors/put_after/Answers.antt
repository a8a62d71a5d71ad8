use Rattle.bgp_text.proofs.Pieces.{Joins, and_then}
use Rattle.bgp_why.proofs.errors.put_after.Goals as goal

pub returns-then-waiting : goal.returns-then-waiting
returns-then-waiting g c = rw (c.in-Some.is, c.if-waiting.true) c.put_error.ensures

pub returns-else-waiting : goal.returns-else-waiting
returns-else-waiting g c =
    let law : Joins g.W.Sink = record { joined = g.met.W.Sink.joined } in
    rw (c.in-Some.is, c.if-waiting.false) (and_then law c.put.ensures c.put_error-else-waiting.ensures)
