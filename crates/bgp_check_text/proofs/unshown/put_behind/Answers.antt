use Rattle.bgp_text.proofs.Pieces.{Joins, and_then}
use Rattle.bgp_check_text.proofs.RestTexts.{none_behind, some_behind}
use Rattle.bgp_check_text.proofs.unshown.put_behind.Goals as goal

pub returns-then-count-gt0 : goal.returns-then-count-gt0
returns-then-count-gt0 g c =
    let law : Joins g.W.Sink = record { joined = g.met.W.Sink.joined } in
    let ends = rw c.end_name.ensures at c.put-then-count-gt0-3.ensures in
    rw (some_behind c.args.way.now c.args.place c.args.count c.args.is_refresh c.if-count-gt0.true)
    (and_then law c.put.ensures (and_then law c.put-then-count-gt0.ensures (and_then law c.put-then-count-gt0-2.ensures (and_then law ends
    (and_then law c.put-then-count-gt0-4.ensures (and_then law c.put_decimal.ensures (and_then law c.put-then-count-gt0-5.ensures
    (and_then law c.put_decimal-then-count-gt0.ensures c.put-then-count-gt0-6.ensures))))))))

pub returns-else-count-gt0 : goal.returns-else-count-gt0
returns-else-count-gt0 g c = rw (none_behind c.args.way.now c.args.place c.args.count c.args.is_refresh c.if-count-gt0.false) c.put-else-count-gt0.ensures
