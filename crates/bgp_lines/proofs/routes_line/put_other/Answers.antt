use Rattle.bgp_lines.specs.RoutesLine.{routes_text}
use Rattle.bgp_text.proofs.Pieces.{Joins, and_then}
use Rattle.bgp_lines.proofs.routes_line.put_other.Goals as goal

pub returns : goal.returns
unfolding routes_text
returns g c =
    let law : Joins g.W.Sink = record { joined = g.met.W.Sink.joined } in
    and_then law c.put.ensures (and_then law c.put_family_name.ensures c.put_octets.ensures)
