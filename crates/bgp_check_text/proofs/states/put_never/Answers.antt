use Rattle.bgp_check_text.specs.States.{never_text}
use Rattle.bgp_text.proofs.Pieces.{Joins, and_then}
use Rattle.bgp_check_text.proofs.states.put_never.Goals as goal

pub returns : goal.returns
unfolding never_text
returns g c =
    let law : Joins g.W.Sink = record { joined = g.met.W.Sink.joined } in
    and_then law c.put_state_name.ensures (and_then law c.put_after.ensures c.put.ensures)
