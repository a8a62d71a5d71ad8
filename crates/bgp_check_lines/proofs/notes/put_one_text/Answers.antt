use Rattle.bgp_text.proofs.Pieces.{Joins, and_then}
use Rattle.bgp_check_lines.specs.Values.{one_order_line}
use Rattle.bgp_check_lines.proofs.notes.put_one_text.Goals as goal

pub returns : goal.returns
unfolding one_order_line
returns g c =
    let law : Joins g.W.Sink = record { joined = g.met.W.Sink.joined } in
    and_then law c.put.ensures (and_then law c.put-2.ensures (and_then law c.put_delayed.ensures c.put-3.ensures))
