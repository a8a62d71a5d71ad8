use Rattle.bgp_check_text.specs.States.{left_text}
use Rattle.bgp_text.proofs.Pieces.{Joins, and_then}
use Rattle.bgp_check_text.proofs.states.put_left.Goals as goal

pub returns : goal.returns
unfolding left_text
returns g c =
    let law : Joins g.W.Sink = record { joined = g.met.W.Sink.joined } in
    and_then law c.put_state_name.ensures (and_then law c.put.ensures c.put_counts.ensures)
