use Rattle.bgp_lines.specs.AttributeLine.{path_text}
use Rattle.bgp_text.proofs.Pieces.{Joins, and_then}
use Rattle.bgp_lines.proofs.attribute_line.put_path.Goals as goal

pub returns-in_default : goal.returns-in_default
unfolding path_text
returns-in_default g c = rw c.in_default.ensures.none c.put.ensures

pub returns : goal.returns
unfolding path_text
returns g c =
    let law : Joins g.W.Sink = record { joined = g.met.W.Sink.joined } in
    rw c.in-Some.ensures.some (and_then law c.put_segment.ensures c.put_more_segments.ensures)
