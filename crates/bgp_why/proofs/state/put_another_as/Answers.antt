use Rattle.bgp_why.specs.State.{another_as_line}
use Rattle.bgp_text.proofs.Pieces.{Joins, and_then}
use Rattle.bgp_why.proofs.state.put_another_as.Goals as goal

pub returns : goal.returns
unfolding another_as_line
returns g c =
    let law : Joins g.W.Sink = record { joined = g.met.W.Sink.joined } in
    and_then law c.put.ensures (and_then law c.put_as.ensures c.put-2.ensures)
