use Rattle.bgp_text.proofs.Pieces.{Joins, and_then}
use Rattle.bgp_check_text.specs.Tally.{tally_line}
use Rattle.bgp_check_text.proofs.tally.Tally.put.Goals as goal

pub returns : goal.returns
unfolding tally_line
returns g c =
    let law : Joins g.W.Sink = record { joined = g.met.W.Sink.joined } in
    let text = and_then law c.put.ensures (and_then law c.put_decimal.ensures (and_then law c.put-2.ensures (and_then law c.put_decimal-2.ensures (and_then law c.put-3.ensures
    (and_then law c.put_decimal-3.ensures (and_then law c.put-4.ensures (and_then law c.put_decimal-4.ensures (and_then law c.put-5.ensures
    (and_then law c.put_decimal-5.ensures (and_then law c.put-6.ensures (and_then law c.put_decimal-6.ensures c.put-7.ensures))))))))))) in
    rw c.ends.ensures at text
