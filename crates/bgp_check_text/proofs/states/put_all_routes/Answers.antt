use Rattle.bgp_text.proofs.Pieces.{Joins, and_then}
use Rattle.bgp_check_text.proofs.states.put_all_routes.Goals as goal

pub returns : goal.returns
returns g c =
    let law : Joins g.W.Sink = record { joined = g.met.W.Sink.joined } in
    let before = rw c.as_slice.ensures.value at c.put_all_before.ensures in
    and_then law c.put_end_routes.ensures before
