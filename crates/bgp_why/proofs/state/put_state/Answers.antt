use Rattle.bgp_why.specs.State.{state_line}
use Rattle.bgp_text.proofs.Pieces.{Joins, and_then}
use Rattle.bgp_why.proofs.state.put_state.Goals as goal

pub returns : goal.returns
unfolding state_line
returns g c =
    let law : Joins g.W.Sink = record { joined = g.met.W.Sink.joined } in
    and_then law c.put.ensures (and_then law (rw c.number.ensures at c.put_state_name.ensures) (and_then law c.put_since.ensures c.put-2.ensures))
