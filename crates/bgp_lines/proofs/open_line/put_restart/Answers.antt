use Rattle.bgp_lines.specs.OpenLine.{capability_value_text}
use Rattle.bgp_text.proofs.Pieces.{Joins, and_then}
use Rattle.bgp_lines.proofs.open_line.put_restart.Goals as goal

pub returns : goal.returns
unfolding capability_value_text
returns g c =
    let law : Joins g.W.Sink = record { joined = g.met.W.Sink.joined } in
    and_then law c.put.ensures (and_then law c.put_decimal.ensures (and_then law c.put-2.ensures (and_then law c.put_if.ensures (and_then law c.put_if-2.ensures c.put_each.ensures))))
