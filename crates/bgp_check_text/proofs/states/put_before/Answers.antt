use Rattle.bgp_text.proofs.Pieces.{Joins, and_then}
use Rattle.bgp_check_text.proofs.states.put_before.Goals as goal

pub returns : goal.returns
returns g c =
    let law : Joins g.W.Sink = record { joined = g.met.W.Sink.joined } in
    let line = rw (c.disabled.ensures.families, c.len.ensures.count) at c.put_before_line.ensures in
    and_then law line c.put_routes.ensures
