use Rattle.bgp_text.proofs.Pieces.{Joins, and_then}
use Rattle.bgp_check_text.proofs.RestTexts.{none_short, some_short}
use Rattle.bgp_check_text.proofs.unshown.put_short.Goals as goal

pub returns-then-count-gt0 : goal.returns-then-count-gt0
returns-then-count-gt0 g c =
    let law : Joins g.W.Sink = record { joined = g.met.W.Sink.joined } in
    rw (some_short c.args.way.now c.args.count c.if-count-gt0.true)
    (and_then law c.put.ensures (and_then law c.put-then-count-gt0.ensures (and_then law c.put-then-count-gt0-2.ensures (and_then law c.put_decimal.ensures c.put-then-count-gt0-3.ensures))))

pub returns-else-count-gt0 : goal.returns-else-count-gt0
returns-else-count-gt0 g c = rw (none_short c.args.way.now c.args.count c.if-count-gt0.false) c.put-else-count-gt0.ensures
