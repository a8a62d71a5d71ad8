use Rattle.bgp_text.proofs.Pieces.{Joins, and_then}
use Rattle.bgp_check_lines.specs.Values.{in_made_order_line}
use Rattle.bgp_check_lines.proofs.notes.put_in_made_text.Goals as goal

pub returns : goal.returns
unfolding in_made_order_line
returns g c =
    let law : Joins g.W.Sink = record { joined = g.met.W.Sink.joined } in
    and_then law c.put.ensures (and_then law c.put_place.ensures (and_then law c.put-2.ensures (and_then law c.put_short.ensures (and_then law c.put-3.ensures (and_then law c.put-4.ensures c.put-5.ensures)))))
