use Rattle.bgp_check_text.specs.States.{route_line}
use Rattle.bgp_text.proofs.Pieces.{Joins, and_then}
use Rattle.bgp_check_text.proofs.states.put_route_line.Goals as goal

pub returns : goal.returns
unfolding route_line
returns g c =
    let law : Joins g.W.Sink = record { joined = g.met.W.Sink.joined } in
    and_then law c.put.ensures (and_then law c.put_route.ensures c.put-2.ensures)
