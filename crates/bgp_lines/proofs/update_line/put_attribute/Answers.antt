use Rattle.bgp_lines.specs.UpdateLine.{named_attribute}
use Rattle.bgp_text.proofs.Pieces.{Joins, and_then}
use Rattle.bgp_lines.proofs.update_line.put_attribute.Goals as goal

pub returns : goal.returns
unfolding named_attribute
returns g c =
    let law : Joins g.W.Sink = record { joined = g.met.W.Sink.joined } in
    rw c.bits_of_type.ensures at (and_then law c.put_attribute_word.ensures c.put_behind_word.ensures)
