use Rattle.bgp_lines.specs.Others.{header_text}
use Rattle.bgp_text.proofs.Pieces.{Joins, and_then}
use Rattle.bgp_lines.proofs.others.put_header.Goals as goal

pub returns : goal.returns
unfolding header_text
returns g c =
    let law : Joins g.W.Sink = record { joined = g.met.W.Sink.joined } in
    rw (c.read_type.ensures, c.read_length.ensures) at (and_then law c.put.ensures (and_then law c.put_type_text.ensures (and_then law c.put-2.ensures (and_then law c.put_decimal.ensures (and_then law c.put-3.ensures c.put_digits.ensures)))))
