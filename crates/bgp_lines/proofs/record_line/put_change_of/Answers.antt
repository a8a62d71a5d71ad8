use Rattle.bgp_text.proofs.Pieces.{Joins, and_then}
use Rattle.bgp_lines.specs.Form.{placed_text}
use Rattle.bgp_lines.proofs.record_line.put_change_of.Goals as goal

pub returns : goal.returns
unfolding placed_text
returns g c =
    let law : Joins g.W.Sink = record { joined = g.met.W.Sink.joined } in
    and_then law c.put.ensures (and_then law c.put_decimal.ensures (and_then law c.put_packet.ensures (and_then law c.put-2.ensures c.put_named_change.ensures)))
