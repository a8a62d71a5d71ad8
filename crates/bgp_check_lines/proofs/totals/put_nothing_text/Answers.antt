use Rattle.bgp_text.proofs.Pieces.{Joins, and_then}
use Rattle.bgp_check_lines.specs.Values.{nothing_at_line}
use Rattle.bgp_check_lines.proofs.totals.put_nothing_text.Goals as goal

pub returns : goal.returns
unfolding nothing_at_line
returns g c =
    let law : Joins g.W.Sink = record { joined = g.met.W.Sink.joined } in
    and_then law c.put.ensures (and_then law c.put_decimal.ensures c.put-2.ensures)
