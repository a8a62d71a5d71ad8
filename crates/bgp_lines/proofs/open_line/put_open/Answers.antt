use Rattle.bgp_lines.specs.OpenLine.{named_open}
use Rattle.bgp_text.proofs.Pieces.{Joins, and_then}
use Rattle.bgp_lines.proofs.open_line.put_open.Goals as goal

pub returns : goal.returns
unfolding named_open
returns g c =
    let law : Joins g.W.Sink = record { joined = g.met.W.Sink.joined } in
    rw (c.my_as.ensures, c.hold.ensures, c.id.ensures, c.caps.ensures) at (and_then law c.put.ensures (and_then law c.put_decimal.ensures (and_then law c.put-2.ensures (and_then law c.put_decimal-2.ensures (and_then law c.put-3.ensures (and_then law c.put_ipv4.ensures c.put_capabilities.ensures))))))
