use Rattle.bgp_lines.specs.AttributeLine.{segment_text}
use Rattle.bgp_text.proofs.Pieces.{Joins, and_then}
use Rattle.bgp_lines.proofs.attribute_line.put_segment.Goals as goal

pub returns : goal.returns
unfolding segment_text
returns g c =
    let law : Joins g.W.Sink = record { joined = g.met.W.Sink.joined } in
    rw (c.opening.ensures, c.between.ensures, c.as_item.ensures, c.closing.ensures) at (and_then law c.put.ensures (and_then law c.put_joined.ensures c.put-2.ensures))
