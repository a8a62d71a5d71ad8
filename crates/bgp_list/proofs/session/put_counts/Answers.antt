use Rattle.bgp_text.proofs.Pieces.{Joins, and_then}
use Rattle.bgp_list.specs.Sessions.{counts_text}
use Rattle.bgp_list.proofs.session.put_counts.Goals as goal

pub returns : goal.returns
unfolding counts_text
returns g c =
    let law : Joins g.W.Sink = record { joined = g.met.W.Sink.joined } in
    and_then law c.put.ensures (and_then law c.put_decimal.ensures (and_then law c.put-2.ensures (and_then law c.put_decimal-2.ensures (and_then law c.put-3.ensures c.put_decimal-3.ensures))))
